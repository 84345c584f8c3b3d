-- Seats of rooms and credits.
use Rattle.std.specs.Prelude.{◌≡◌}
use Rattle.fak_model.specs.Calls.{ObjectId, SeatInfo}

-- the seat belongs to this object; a seat of a room or credit is always between two calls
abbrev pub IsSeatOf : {M : Type 0} → ObjectId → SeatInfo M → Type 0
IsSeatOf object seat = seat.object ≡ object
