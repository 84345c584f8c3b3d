-- Seats that were just dealt belong to their semaphore.
use Rattle.std.proofs.Common.{◌≡◌, ℕ, zero, suc, List, refl, subst, sym}
use Rattle.std.specs.List.{All}
use Rattle.std.proofs.lemmas.List.Elements.{All-nil, All-cons}
use Rattle.fak_sem.specs.Semaphores.{SemId, SemSeatInfo, fresh_sem_seats}

abbrev AreOf : {T : Type 0} → SemId → List (SemSeatInfo T) → Type 0
AreOf {T} object seats = All (λ (s : SemSeatInfo T). s.object ≡ object) seats

fresh_are_of : {T : Type 0} (object : SemId) (stint name n : ℕ) → AreOf {T = T} object (fresh_sem_seats object stint name n)
fresh_are_of {T} object stint name zero = All-nil (λ (s : SemSeatInfo T). s.object ≡ object)
fresh_are_of {T} object stint name (suc n) = All-cons (λ (s : SemSeatInfo T). s.object ≡ object) _ (fresh_sem_seats object stint (suc name) n) refl (fresh_are_of object stint (suc name) n)

pub dealt_are_of : {T : Type 0} (object : SemId) (stint n : ℕ) (seats : List (SemSeatInfo T)) → seats ≡ fresh_sem_seats object stint 0 n → AreOf object seats
dealt_are_of object stint n seats is = subst (AreOf object) (sym is) (fresh_are_of object stint 0 n)
