-- Seats that were just dealt belong to their object.
use Rattle.std.proofs.Common.{◌≡◌, ℕ, zero, suc, List, [], refl, subst, sym}
use Rattle.std.specs.List.{All}
use Rattle.std.proofs.lemmas.List.Elements.{All-nil, All-cons}
use Rattle.fak_model.specs.Calls.{ObjectId, SeatInfo, seat_info, fresh_seats}
use Rattle.fak_count.specs.Seats.{IsSeatOf}

fresh_are_of : {M : Type 0} (object : ObjectId) (stint name n : ℕ) → All (IsSeatOf {M = M} object) (fresh_seats object stint name n)
fresh_are_of {M} object stint name zero = All-nil (IsSeatOf {M = M} object)
fresh_are_of {M} object stint name (suc n) = All-cons (IsSeatOf {M = M} object) (seat_info object name stint []) (fresh_seats object stint (suc name) n) refl (fresh_are_of object stint (suc name) n)

pub dealt_are_of : {M : Type 0} (object : ObjectId) (stint n : ℕ) (seats : List (SeatInfo M)) → seats ≡ fresh_seats object stint 0 n → All (IsSeatOf object) seats
dealt_are_of object stint n seats is = subst (All (IsSeatOf object)) (sym is) (fresh_are_of object stint 0 n)
