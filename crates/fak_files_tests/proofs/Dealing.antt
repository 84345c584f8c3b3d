-- Seats that were just dealt belong to their table, and hold nothing.
use Rattle.std.proofs.Common.{◌≡◌, ℕ, zero, suc, List, [], refl, subst, sym}
use Rattle.std.specs.List.{All}
use Rattle.std.proofs.lemmas.List.Elements.{All-nil, All-cons}
use Rattle.fak_model.specs.Calls.{ObjectId, seat_info, fresh_seats}
use Rattle.fak_files.specs.Calls.{FileSeatInfo, IsFreeSeatOf, file_seat, idle_seats}
use Rattle.fak_files.specs.declared.phase.Hold.TheVariants.{Nothing}

fresh_are_of : (object : ObjectId) (stint name n : ℕ) → All (IsFreeSeatOf object) (idle_seats (fresh_seats object stint name n))
fresh_are_of object stint name zero = All-nil (IsFreeSeatOf object)
fresh_are_of object stint name (suc n) = All-cons (IsFreeSeatOf object) (file_seat (seat_info object name stint []) Nothing) (idle_seats (fresh_seats object stint (suc name) n)) (refl, refl) (fresh_are_of object stint (suc name) n)

pub dealt_are_of : (object : ObjectId) (stint n : ℕ) (seats : List FileSeatInfo) → seats ≡ idle_seats (fresh_seats object stint 0 n) → All (IsFreeSeatOf object) seats
dealt_are_of object stint n seats is = subst (All (IsFreeSeatOf object)) (sym is) (fresh_are_of object stint 0 n)
