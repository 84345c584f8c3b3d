-- What callers see of a room and of its seats, and what calls do to them.
use Rattle.std.specs.Prelude.{ℕ, ◌+◌, ◌≡◌, ◌<◌, ◌⊎◌, ℤ, List, [], ◌∷◌, reverse}
use Rattle.std.specs.List.{sum_by}
use Rattle.fak_model.specs.declared.room.RoomKind.{RoomKind}
use Rattle.fak_model.specs.declared.room.RoomKind.TheVariants.{Up, Over, Back, No}
use Rattle.fak_model.specs.declared.room.RoomMark.{RoomMark}
use Rattle.fak_model.specs.Histories.{words_by}
use Rattle.fak_model.specs.Room.{seat_of, kind_of, room_rules, IsRoomHistory, value, amount_held}
use Rattle.fak_model.specs.Resting.{AreBetweenCalls}
use Rattle.fak_model.specs.Calls.{ObjectId, SeatInfo, seat_info, Appends, before_appended}
use Rattle.fak_count.specs.declared.fault.TirFault.{TirFault}
use Rattle.fak_count.specs.declared.fault.TirFault.TheVariants.{Worn, AtBound}
use Rattle.fak_count.specs.RoomShown.{RoomHolder, room_mark}

-- a room: which object it is, and its bound
pub record RoomInfo : Type 0 where
  pub object : ObjectId
  pub bound : ℕ

abbrev pub room_info : ObjectId → ℕ → RoomInfo
room_info object bound = record { object = object; bound = bound }

abbrev pub up_weight : RoomKind → ℕ
up_weight (Up d) = 1
up_weight _ = 0

-- the number of claims of this name that were granted
abbrev pub grants_of : ℕ → List RoomMark → ℕ
grants_of name h = sum_by up_weight (words_by seat_of kind_of name h)

-- the number of claims that the seat was granted, and the amount that it holds
abbrev pub granted_claims : SeatInfo RoomMark → ℕ
granted_claims s = grants_of s.name s.seen

abbrev pub held_amount : SeatInfo RoomMark → ℕ
held_amount s = amount_held s.name s.seen

-- a seat of this object, name and view, with this many claims left of its stint
abbrev pub room_seat : ObjectId → ℕ → ℕ → RoomHolder → SeatInfo RoomMark
room_seat object name left me = seat_info object name (left + grants_of name (reverse me.0.seen)) (reverse me.0.seen)

-- a call that leaves one mark, and returns the value before it
pub record MakesCall (kind : RoomKind) (room : RoomInfo) (old new : SeatInfo RoomMark) (answer : ℤ) : Type 0 where
  pub appends : Appends (room_rules room.bound) (room_mark old.name kind ∷ []) old new
  pub answers : answer ≡ value (before_appended seat_of 0 old new)

-- a claim that was withdrawn; it returns the value before its add
pub record Withdraws (d : ℕ) (room : RoomInfo) (old new : SeatInfo RoomMark) (answer : ℤ) : Type 0 where
  pub appends : Appends (room_rules room.bound) (room_mark old.name (Over d) ∷ room_mark old.name (Back d) ∷ []) old new
  pub answers : answer ≡ value (before_appended seat_of 0 old new)

-- a claim is granted, within the stint
abbrev pub IsGranted : ℕ → RoomInfo → SeatInfo RoomMark → SeatInfo RoomMark → ℤ → Type 0
IsGranted d room old new answer = (granted_claims old < old.stint) × MakesCall (Up d) room old new answer

-- a claim beyond the stint changes nothing; within it, a claim is refused at its test or at its add
abbrev pub IsRefused : ℕ → RoomInfo → SeatInfo RoomMark → SeatInfo RoomMark → TirFault → Type 0
IsRefused d room old new Worn = (granted_claims old ≡ old.stint) × (new ≡ old)
IsRefused d room old new (AtBound v) = (granted_claims old < old.stint) × (MakesCall (No d) room old new v ⊎ Withdraws d room old new v)

-- what was seen of a room is lawful for some bound, and these names are between two calls
pub record IsSettled (names : List ℕ) (seen : List RoomMark) : Type 0 where
  pub bound : ℕ
  pub lawful : IsRoomHistory bound seen
  pub rest : AreBetweenCalls (room_rules bound) names seen
