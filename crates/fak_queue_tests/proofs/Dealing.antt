-- Seats that were just dealt belong to their queue.
use Rattle.std.proofs.Common.{◌≡◌, ℕ, zero, suc, List, [], refl, subst, sym}
use Rattle.std.specs.List.{All}
use Rattle.std.proofs.lemmas.List.Elements.{All-nil, All-cons}
use Rattle.fak_model.specs.declared.queue.Mark.{Mark}
use Rattle.fak_model.specs.Calls.{ObjectId, SeatInfo, seat_info, fresh_seats}

abbrev AreOf : {T : Type 0} → ObjectId → List (SeatInfo (Mark T)) → Type 0
AreOf {T} object seats = All (λ (s : SeatInfo (Mark T)). s.object ≡ object) seats

fresh_are_of : {T : Type 0} (object : ObjectId) (stint name n : ℕ) → AreOf {T = T} object (fresh_seats object stint name n)
fresh_are_of {T} object stint name zero = All-nil (λ (s : SeatInfo (Mark T)). s.object ≡ object)
fresh_are_of {T} object stint name (suc n) = All-cons (λ (s : SeatInfo (Mark T)). s.object ≡ object) (seat_info object name stint []) (fresh_seats object stint (suc name) n) refl (fresh_are_of object stint (suc name) n)

pub dealt_are_of : {T : Type 0} (object : ObjectId) (stint n : ℕ) (seats : List (SeatInfo (Mark T))) → seats ≡ fresh_seats object stint 0 n → AreOf object seats
dealt_are_of object stint n seats is = subst (AreOf object) (sym is) (fresh_are_of object stint 0 n)
