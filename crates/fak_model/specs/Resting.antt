-- Names without an open call.
use Rattle.std.specs.Prelude.{ℕ, List, []}
use Rattle.fak_model.specs.Histories.{Rules, seat_words, Owes}
use Rattle.fak_model.specs.Seats.{In}

-- the marks of each of these names are whole calls
abbrev pub AreBetweenCalls : {M W C : Type 0} → Rules M W C → List ℕ → List M → Type 0
AreBetweenCalls rules names h = (n : ℕ) → In n names → Owes rules.words_of (seat_words rules n h) []
