-- The histories of a room: a count that claims raise by test, increment and retest.
use Rattle.std.specs.Prelude.{ℕ, ◌+◌, ◌-◌, ◌≤◌, ℤ, pos, ◌+ℤ◌, ◌-ℤ◌, ◌≤ℤ◌, ◌<ℤ◌, List, [], ◌∷◌, map}
use Rattle.std.specs.List.{sum_by}
use Rattle.fak_model.specs.declared.room.RoomKind.{RoomKind}
use Rattle.fak_model.specs.declared.room.RoomKind.TheVariants.{Up, Over, Back, No, Release}
use Rattle.fak_model.specs.declared.room.RoomMark.{RoomMark}
use Rattle.fak_model.specs.Histories.{Rules, words_by, IsHistory}

abbrev pub seat_of : RoomMark → ℕ
seat_of m = m.seat

abbrev pub kind_of : RoomMark → RoomKind
kind_of m = m.kind

-- a whole call
pub data WholeCall : Type 0 where
  Granted : ℕ → WholeCall
  Refused : ℕ → WholeCall
  Withdrawn : ℕ → WholeCall
  Released : ℕ → WholeCall

abbrev pub kinds_of_call : WholeCall → List RoomKind
kinds_of_call (Granted d) = Up d ∷ []
kinds_of_call (Refused d) = No d ∷ []
kinds_of_call (Withdrawn d) = Over d ∷ Back d ∷ []
kinds_of_call (Released d) = Release d ∷ []

-- the amount of a mark of one kind, 0 for a mark of any other kind
abbrev pub up_amount : RoomKind → ℕ
up_amount (Up d) = d
up_amount _ = 0

abbrev pub over_amount : RoomKind → ℕ
over_amount (Over d) = d
over_amount _ = 0

abbrev pub back_amount : RoomKind → ℕ
back_amount (Back d) = d
back_amount _ = 0

abbrev pub release_amount : RoomKind → ℕ
release_amount (Release d) = d
release_amount _ = 0

-- the sum of these amounts over a history
abbrev pub total : (RoomKind → ℕ) → List RoomMark → ℕ
total amount h = sum_by amount (map kind_of h)

-- Ups and Overs less Backs and Releases
abbrev pub value : List RoomMark → ℤ
value p = pos (total up_amount p + total over_amount p) -ℤ pos (total back_amount p + total release_amount p)

-- what a seat holds: its Ups less its Releases
abbrev pub amount_held : ℕ → List RoomMark → ℕ
amount_held seat h = sum_by up_amount (words_by seat_of kind_of seat h) - sum_by release_amount (words_by seat_of kind_of seat h)

-- a claim is granted if it fits and refused if not, and no seat gives back more than it holds
abbrev pub IsFair : ℕ → List RoomMark → ℕ → RoomKind → Type 0
IsFair bound before seat (Up d) = (value before +ℤ pos d) ≤ℤ pos bound
IsFair bound before seat (No d) = pos bound <ℤ (value before +ℤ pos d)
IsFair bound before seat (Over d) = pos bound <ℤ (value before +ℤ pos d)
IsFair bound before seat (Release d) = d ≤ amount_held seat before
IsFair bound before seat (Back d) = Unit {0}

abbrev pub room_rules : ℕ → Rules RoomMark RoomKind WholeCall
room_rules bound = record {
  seat_of = seat_of;
  word_of = kind_of;
  words_of = kinds_of_call;
  IsFair = λ before m. IsFair bound before m.seat m.kind;
}

abbrev pub IsRoomHistory : ℕ → List RoomMark → Type 0
IsRoomHistory bound h = IsHistory (room_rules bound) h
