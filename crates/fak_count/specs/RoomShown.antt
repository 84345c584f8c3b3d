-- What a running room shows between two steps, and what a seat learns from each step.
use Rattle.std.specs.Prelude.{ℕ, ◌+◌, ◌^◌, ◌<◌, ◌≤◌, ◌≡◌, pos, ◌+ℤ◌, List, [], ◌∷◌, reverse, slice_get, Some}
use Rattle.atomic_table.specs.Table.{State, Me}
use Rattle.fak_model.specs.declared.view.View.{View}
use Rattle.fak_model.specs.declared.room.RoomKind.{RoomKind}
use Rattle.fak_model.specs.declared.room.RoomKind.TheVariants.{Up, Over, No}
use Rattle.fak_model.specs.declared.room.RoomMark.{RoomMark}
use Rattle.fak_model.specs.Room.{WholeCall, room_rules, value, amount_held}
use Rattle.fak_model.specs.Views.{opened}
use Rattle.fak_model.specs.Shown.{Object, IsShown, Leaves, Hears}
use Rattle.fak_core.specs.declared.room.phase.RoomPhase.{RoomPhase}
use Rattle.fak_core.specs.declared.room.phase.RoomPhase.TheVariants.{Idle, Adding, Backing}
use Rattle.fak_core.specs.Room.{RoomState}
use Rattle.fak_core.specs.RoomSchedule as core
use Rattle.fak_count.specs.declared.rooms.limits.RoomLimits.{RoomLimits}
use Rattle.fak_count.specs.Opening.{IsCount}
use Rattle.fak_model.specs.Words.{bias}
use Rattle.fak_count.specs.Words.{KeepsCount}

abbrev pub RoomView : Type 0
RoomView = View RoomMark RoomPhase

abbrev pub RoomHolder : Type 0
RoomHolder = Me (Unit {0}) RoomView

abbrev pub room_mark : ℕ → RoomKind → RoomMark
room_mark name kind = record { seat = name; kind = kind }

-- the core state is reached within the limits of a room
pub record IsReachedRoom (key : RoomLimits) (s : RoomState) : Type 0 where
  pub reached : core.IsReached key.bound key.seats s
  pub low : IsCount key.bound
  pub few : key.seats ≤ 1024

-- the seat is at this phase, whatever it holds
pub record StandsInRoom (s : RoomState) (name : ℕ) (phase : RoomPhase) : Type 0 where
  pub holding : ℕ
  pub seat : slice_get s.seats name ≡ Some (record { held = holding; phase = phase })

-- a room's state is that of the room core; its seats draw no tickets
abbrev pub room_object : RoomLimits → Object RoomMark RoomKind WholeCall RoomPhase RoomState (Unit {0})
room_object key = record {
  rules = room_rules key.bound;
  seats = key.seats;
  tickets = 0;
  drawn_of = λ s. 0;
  past_of = λ s. s.past;
  IsReached = IsReachedRoom key;
  StandsAt = StandsInRoom;
  Encodes = λ s notes words homes. KeepsCount s.count words;
}

abbrev pub IsShownRoom : RoomLimits → State (Unit {0}) RoomView → Type 0
IsShownRoom key s = IsShown (room_object key) s

abbrev pub opened_room : RoomLimits → RoomView
opened_room key = opened Idle key.seats 0

-- the one name of the view holds at least d
abbrev pub Holds : RoomView → ℕ → Type 0
Holds v d = (name : ℕ) → v.names ≡ name ∷ [] → d ≤ amount_held name (reverse v.seen)

-- the word that was found holds the value after this past
abbrev pub FoundValue : ℕ → List RoomMark → Type 0
FoundValue found past = pos found ≡ pos bias +ℤ value (reverse past)

-- the seat left these marks, and is at this phase
abbrev pub LeavesRoom : RoomLimits → RoomHolder → ℕ → List RoomMark → RoomPhase → RoomHolder → Type 0
LeavesRoom key m found new phase after = Leaves (room_object key) m new phase 0 m.1 (FoundValue found) after

-- a test: the claim goes on if it fits, and is refused if it does not
pub record Tested (key : RoomLimits) (d : ℕ) (m : RoomHolder) (found : ℕ) (after : RoomHolder) : Type 0 where
  pub small : found < 2 ^ 63
  pub fits : (name : ℕ) → m.0.names ≡ name ∷ [] → found + d ≤ bias + key.bound → LeavesRoom key m found [] (Adding d) after
  pub full : (name : ℕ) → m.0.names ≡ name ∷ [] → bias + key.bound < found + d → LeavesRoom key m found (room_mark name (No d) ∷ []) Idle after

-- an add: if the claim fits, it is granted, and what the seat then holds is within the bound; if not, it is to be withdrawn next
pub record Added (key : RoomLimits) (d : ℕ) (m : RoomHolder) (found : ℕ) (after : RoomHolder) : Type 0 where
  pub small : found < 2 ^ 63
  pub fits : (name : ℕ) → m.0.names ≡ name ∷ [] → found + d ≤ bias + key.bound → LeavesRoom key m found (room_mark name (Up d) ∷ []) Idle after × (amount_held name (reverse after.0.seen) ≤ 4294967296)
  pub full : (name : ℕ) → m.0.names ≡ name ∷ [] → bias + key.bound < found + d → LeavesRoom key m found (room_mark name (Over d) ∷ []) (Backing d) after

-- a subtraction, which withdraws a claim or gives an amount back
pub record Lowered (key : RoomLimits) (kind : RoomKind) (m : RoomHolder) (found : ℕ) (after : RoomHolder) : Type 0 where
  pub small : found < 2 ^ 63
  pub leaves : (name : ℕ) → m.0.names ≡ name ∷ [] → LeavesRoom key m found (room_mark name kind ∷ []) Idle after

abbrev pub HeardJoin : RoomLimits → RoomHolder → RoomHolder → Type 0
HeardJoin key m after = Hears (room_object key) m after
