-- What marks and notes add to a seat's account.
use Rattle.std.specs.Prelude.{◌≡◌, ◌≢◌, ℕ, suc, ◌-◌, ◌≤◌, List, [], ◌∷◌, ◌++◌, length, map, reverse}
use Rattle.std.proofs.Common.{arith, refl, ap, sym, ◌∙◌, subst}
use Rattle.std.proofs.lemmas.List.{map-append, reverse-append}
use Rattle.std.proofs.Common.{length-append}
use Rattle.fak_model.specs.declared.note.Note.{Note}
use Rattle.fak_model.specs.declared.note.NoteKind.{NoteKind}
use Rattle.fak_model.specs.declared.queue.Kind.{Kind}
use Rattle.fak_model.specs.declared.queue.Mark.{Mark}
use Rattle.fak_model.specs.Calls.{SeatInfo, mine_of}
use Rattle.fak_model.specs.Seats.{In, marks_of}
use Rattle.fak_model.specs.Views.{Foreign}
use Rattle.fak_model.proofs.RunningCalls.{marks_of-other, marks_of-own, marks_of-reverse}
use Rattle.fak_channel_core.specs.SleeperMoves.{Marks, after_deed, after_note}
use Rattle.fak_queue.specs.Accounts.{account_of, after_kinds, kinds_by, AreWithin}
use Rattle.fak_queue.specs.Queues.{Makes, made_by, seat_of}
use Rattle.fak_queue.specs.SleeperRest.{account_by, marks_by}

-- ---- marks

-- one mark more
pub account_marked : {T : Type 0} (seats : ℕ) (notes : List Note) (κ : Kind T) (kinds : List (Kind T)) → AreWithin notes (length kinds)
    → account_of seats notes (κ ∷ kinds) ≡ after_deed seats (Marks κ) (account_of seats notes kinds)
account_marked seats [] κ kinds w = refl
account_marked seats (x ∷ notes) κ kinds w = let e : suc (length kinds) - x.after ≡ suc (length kinds - x.after) = omega (arith, w) in rw e refl

pub within_more : (notes : List Note) (marks : ℕ) → AreWithin notes marks → AreWithin notes (suc marks)
within_more [] marks w = tt
within_more (x ∷ notes) marks w = omega (arith, w)

pub kinds_own : {T : Type 0} (n : ℕ) (κ : Kind T) (past : List (Mark T)) → kinds_by n (record { seat = n; kind = κ } ∷ past) ≡ κ ∷ kinds_by n past
kinds_own {T} n κ past = let m : Mark T = record { seat = n; kind = κ } in ap (λ h. map (λ (x : Mark T). x.kind) h) (marks_of-own (λ (x : Mark T). x.seat) n m past refl)

pub kinds_else : {T : Type 0} (n : ℕ) (m : Mark T) (past : List (Mark T)) → m.seat ≢ n → kinds_by n (m ∷ past) ≡ kinds_by n past
kinds_else {T} n m past ne = ap (λ h. map (λ (x : Mark T). x.kind) h) (marks_of-other (λ (x : Mark T). x.seat) n m past ne)

-- ---- notes

-- one note more
pub account_noted : {T : Type 0} (seats : ℕ) (k : NoteKind) (notes : List Note) (kinds : List (Kind T)) → account_of seats (record { kind = k; after = length kinds } ∷ notes) kinds ≡ after_note seats k (account_of seats notes kinds)
account_noted seats k notes kinds = let e : length kinds - length kinds ≡ 0 = omega arith in rw e refl

-- ---- marks of others

-- they are none of the seat's
pub kinds_foreign : {T : Type 0} (n : ℕ) (names : List ℕ) (between seen : List (Mark T)) → In n names → Foreign (λ (m : Mark T). m.seat) names between → kinds_by n (between ++ seen) ≡ kinds_by n seen
kinds_foreign n names [] seen i f = refl
kinds_foreign n names (m ∷ between) seen i f = kinds_else n m (between ++ seen) (λ e. f.0 (subst (λ k. In k names) (sym e) i)) ∙ kinds_foreign n names between seen i f.1

-- ---- calls

pub within_all : {T : Type 0} (notes : List Note) (new kinds : List (Kind T)) → AreWithin notes (length kinds) → AreWithin notes (length (new ++ kinds))
within_all notes [] kinds w = w
within_all notes (κ ∷ new) kinds w = within_more notes (length (new ++ kinds)) (within_all notes new kinds w)

-- marks of these kinds more, newest first
pub account_marks : {T : Type 0} (seats : ℕ) (notes : List Note) (new kinds : List (Kind T)) → AreWithin notes (length kinds) → account_of seats notes (new ++ kinds) ≡ after_kinds seats new (account_of seats notes kinds)
account_marks seats notes [] kinds w = refl
account_marks seats notes (κ ∷ new) kinds w =
    account_marked seats notes κ (new ++ kinds) (within_all notes new kinds w) ∙ ap (after_deed seats (Marks κ)) (account_marks seats notes new kinds w)

map_reverse : {A B : Type 0} (f : A → B) (l : List A) → map f (reverse l) ≡ reverse (map f l)
map_reverse f [] = refl
map_reverse f (x ∷ l) =
    ap (map f) (reverse-append (x ∷ []) l) ∙ (map-append f (reverse l) (x ∷ []) ∙ (ap (λ h. h ++ f x ∷ []) (map_reverse f l) ∙ sym (reverse-append (f x ∷ []) (map f l))))

kinds_made : {T : Type 0} (n : ℕ) (kinds : List (Kind T)) → map (λ (m : Mark T). m.kind) (made_by n kinds) ≡ kinds
kinds_made n [] = refl
kinds_made n (κ ∷ kinds) = ap (λ l. κ ∷ l) (kinds_made n kinds)

kinds_reverse : {T : Type 0} (n : ℕ) (kinds : List (Kind T)) → map (λ (m : Mark T). m.kind) (reverse (made_by n kinds)) ≡ reverse kinds
kinds_reverse {T} n kinds = map_reverse (λ (m : Mark T). m.kind) (made_by n kinds) ∙ ap reverse (kinds_made n kinds)

-- the kinds of a seat's marks after a call
pub kinds_after : {T : Type 0} (size : ℕ) (kinds : List (Kind T)) (old new : SeatInfo (Mark T)) → Makes size kinds old new → kinds_by new.name (reverse new.seen) ≡ reverse kinds ++ kinds_by old.name (reverse old.seen)
kinds_after {T} size kinds old new makes =
    let kind : Mark T → Kind T = λ m. m.kind in
    let name : new.name ≡ old.name = ap (λ (i : SeatInfo (Mark T)). i.name) makes.same_seat in
    let mine : marks_of seat_of new.name (reverse new.seen) ≡ reverse (made_by old.name kinds) ++ marks_of seat_of old.name (reverse old.seen) =
    marks_of-reverse seat_of new.name new.seen ∙ (ap reverse makes.mine ∙ (reverse-append (mine_of seat_of old) (made_by old.name kinds) ∙ ap (λ l. reverse (made_by old.name kinds) ++ l) (sym (marks_of-reverse seat_of old.name old.seen)))) in
    ap (map kind) mine ∙ (map-append kind (reverse (made_by old.name kinds)) (marks_of seat_of old.name (reverse old.seen)) ∙ ap (λ l. l ++ kinds_by old.name (reverse old.seen)) (kinds_reverse old.name kinds))

pub within_upto : (notes : List Note) (few many : ℕ) → few ≤ many → AreWithin notes few → AreWithin notes many
within_upto [] few many l w = tt
within_upto (x ∷ notes) few many l w = omega (arith, l, w)

-- a call leaves the seat's own marks as they were, and perhaps more
pub marks_grow : {T : Type 0} (size : ℕ) (kinds : List (Kind T)) (old new : SeatInfo (Mark T)) → Makes size kinds old new → marks_by old ≤ marks_by new
marks_grow size kinds old new makes =
    let long = ap length (kinds_after size kinds old new makes) ∙ length-append (reverse kinds) (kinds_by old.name (reverse old.seen)) in
    omega (arith, long)

pub account_made : {T : Type 0} (seats size : ℕ) (notes : List Note) (kinds : List (Kind T)) (old new : SeatInfo (Mark T)) → AreWithin notes (marks_by old) → Makes size kinds old new
    → account_by seats notes new ≡ after_kinds seats (reverse kinds) (account_by seats notes old)
account_made seats size notes kinds old new within makes =
    ap (account_of seats notes) (kinds_after size kinds old new makes) ∙ account_marks seats notes (reverse kinds) (kinds_by old.name (reverse old.seen)) within
