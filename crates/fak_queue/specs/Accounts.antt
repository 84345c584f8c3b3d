-- What a seat of a queue owes as an end of a channel: its own notes and marks tell it. Both have the newest first.
use Rattle.std.specs.Prelude.{ℕ, ◌-◌, ◌≤◌, List, [], ◌∷◌, length, take, drop, map}
use Rattle.fak_model.specs.declared.note.Note.{Note}
use Rattle.fak_model.specs.declared.queue.Kind.{Kind}
use Rattle.fak_model.specs.declared.queue.Mark.{Mark}
use Rattle.fak_model.specs.Seats.{marks_of}
use Rattle.fak_channel_core.specs.SleeperMoves.{Account, Marks, after_deed, after_note, free_account}

-- the kinds of a name's marks
abbrev pub kinds_by : {T : Type 0} → ℕ → List (Mark T) → List (Kind T)
kinds_by {T} n past = map (λ (m : Mark T). m.kind) (marks_of (λ (m : Mark T). m.seat) n past)

-- the account after marks of these kinds, among this many seats
abbrev pub after_kinds : {T : Type 0} → ℕ → List (Kind T) → Account → Account
after_kinds seats [] g = g
after_kinds seats (κ ∷ kinds) g = after_deed seats (Marks κ) (after_kinds seats kinds g)

-- the account of a seat by its notes and the kinds of its marks. A note comes after as many of its marks as it says
abbrev pub account_of : {T : Type 0} → ℕ → List Note → List (Kind T) → Account
account_of seats [] kinds = after_kinds seats kinds free_account
account_of seats (x ∷ notes) kinds =
    after_kinds seats (take (length kinds - x.after) kinds) (after_note seats x.kind (account_of seats notes (drop (length kinds - x.after) kinds)))

-- the newest note comes after at most this many marks
abbrev pub AreWithin : List Note → ℕ → Type 0
AreWithin [] marks = Unit {0}
AreWithin (x ∷ notes) marks = x.after ≤ marks
