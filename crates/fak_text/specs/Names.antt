-- The names of steps, of marks and of refusals.
use Rattle.std.specs.Prelude.{ℕ, List, [], codes, Option, Some, None}
use Rattle.fak_model.specs.declared.queue.Kind.{Kind}
use Rattle.fak_model.specs.declared.queue.Kind.TheVariants as kinds
use Rattle.fak_model.specs.declared.room.RoomKind.{RoomKind}
use Rattle.fak_model.specs.declared.room.RoomKind.TheVariants as room_kinds
use Rattle.fak_core.specs.declared.line.CoreMove.{CoreMove}
use Rattle.fak_core.specs.declared.line.CoreMove.TheVariants as moves
use Rattle.fak_core.specs.declared.fault.CoreFault.{CoreFault}
use Rattle.fak_core.specs.declared.fault.CoreFault.TheVariants as faults

abbrev pub move_name : CoreMove → List ℕ
move_name moves.Test = codes "test"
move_name moves.Add = codes "add"
move_name moves.Back = codes "back"
move_name moves.Release = codes "release"
move_name moves.TestUp = codes "test-up"
move_name moves.AddUp = codes "add-up"
move_name moves.BackUp = codes "back-up"
move_name moves.TicketIn = codes "ticket-in"
move_name moves.TurnIn = codes "turn-in"
move_name moves.StoreItem = codes "store-item"
move_name moves.SetFull = codes "set-full"
move_name moves.EndIn = codes "end-in"
move_name moves.TestLow = codes "test-low"
move_name moves.SubLow = codes "sub-low"
move_name moves.BackLow = codes "back-low"
move_name moves.TicketOut = codes "ticket-out"
move_name moves.TurnOut = codes "turn-out"
move_name moves.LoadItem = codes "load-item"
move_name moves.SetFree = codes "set-free"
move_name moves.EndOut = codes "end-out"
move_name moves.Shut = codes "shut"

abbrev pub room_name : RoomKind → List ℕ
room_name (room_kinds.Up d) = codes "up"
room_name (room_kinds.Over d) = codes "over"
room_name (room_kinds.Back d) = codes "back"
room_name (room_kinds.No d) = codes "no"
room_name (room_kinds.Release d) = codes "release"

-- the amount that a mark of a room bears
abbrev pub amount_of : RoomKind → ℕ
amount_of (room_kinds.Up d) = d
amount_of (room_kinds.Over d) = d
amount_of (room_kinds.Back d) = d
amount_of (room_kinds.No d) = d
amount_of (room_kinds.Release d) = d

abbrev pub kind_name : Kind ℕ → List ℕ
kind_name kinds.ClaimIn = codes "claim-in"
kind_name kinds.OverIn = codes "over-in"
kind_name kinds.BackIn = codes "back-in"
kind_name kinds.NoRoom = codes "no-room"
kind_name (kinds.Put x) = codes "put"
kind_name (kinds.Fill k) = codes "fill"
kind_name kinds.EndIn = codes "end-in"
kind_name kinds.ClaimOut = codes "claim-out"
kind_name kinds.OverOut = codes "over-out"
kind_name kinds.BackOut = codes "back-out"
kind_name kinds.NoItem = codes "no-item"
kind_name (kinds.Got x) = codes "got"
kind_name (kinds.Take k) = codes "take"
kind_name kinds.EndOut = codes "end-out"
kind_name kinds.Close = codes "close"
kind_name kinds.Closed = codes "closed"
kind_name kinds.LateIn = codes "late-in"

-- the item or ticket that a mark of a queue bears
abbrev pub number_of : Kind ℕ → Option ℕ
number_of kinds.ClaimIn = None
number_of kinds.OverIn = None
number_of kinds.BackIn = None
number_of kinds.NoRoom = None
number_of (kinds.Put x) = Some x
number_of (kinds.Fill k) = Some k
number_of kinds.EndIn = None
number_of kinds.ClaimOut = None
number_of kinds.OverOut = None
number_of kinds.BackOut = None
number_of kinds.NoItem = None
number_of (kinds.Got x) = Some x
number_of (kinds.Take k) = Some k
number_of kinds.EndOut = None
number_of kinds.Close = None
number_of kinds.Closed = None
number_of kinds.LateIn = None

-- the four refusals of a begun call or of a step
abbrev pub IsRefusal : CoreFault → Type 0
IsRefusal faults.BadSize = ⊥
IsRefusal faults.BadSeats = ⊥
IsRefusal faults.NoSuchSeat = Unit {0}
IsRefusal faults.MidCall = Unit {0}
IsRefusal faults.IdleSeat = Unit {0}
IsRefusal faults.NotHeld = Unit {0}
IsRefusal faults.Memory = ⊥

abbrev pub refusal_name : CoreFault → List ℕ
refusal_name faults.NoSuchSeat = codes "no-such-seat"
refusal_name faults.MidCall = codes "mid-call"
refusal_name faults.IdleSeat = codes "idle-seat"
refusal_name faults.NotHeld = codes "not-held"
refusal_name _ = []
