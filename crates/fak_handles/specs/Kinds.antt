-- Which seat a handle has, and what the calls that move it do.
use Rattle.std.specs.Prelude.{◌≡◌, ℤ, pos, Option, Some, None}
use Rattle.std.specs.Box.{with_value}
use Rattle.fak_queue.specs.declared.state.SeatState.TheVariants as state
use Rattle.fak_queue.specs.Queues.{state_of}
use Rattle.fak_count.specs.Rooms.{held_amount}
use Rattle.fak_files.specs.declared.phase.Hold.TheVariants as hold
use Rattle.fak_sem.specs.declared.standing.Standing.TheVariants as standing
use Rattle.fak_channel.specs.Standings.{IsBetweenCalls}
use Rattle.fak_handles.specs.bundle.Calls.{IsResting}
use Rattle.fak_handles.specs.declared.desk.Desk.{Desk}
use Rattle.fak_handles.specs.declared.desk.Desk.TheVariants.{Queue, Semaphore, Room, Credit, Files, Channel, Bundle}
use Rattle.fak_handles.specs.declared.queue.seat.QueueDesk.{QueueDesk}
use Rattle.fak_handles.specs.declared.semaphore.seat.SemDesk.{SemDesk}
use Rattle.fak_handles.specs.declared.room.seat.RoomDesk.{RoomDesk}
use Rattle.fak_handles.specs.declared.credit.seat.CreditDesk.{CreditDesk}
use Rattle.fak_handles.specs.declared.files.seat.FileDesk.{FileDesk}
use Rattle.fak_handles.specs.declared.channel.seat.ChannelDesk.{ChannelDesk}
use Rattle.fak_handles.specs.declared.bundle.seat.BundleDesk.{BundleDesk}

abbrev pub queue_in : Option Desk → Option QueueDesk
queue_in (Some (Queue d)) = Some d
queue_in _ = None

abbrev pub semaphore_in : Option Desk → Option SemDesk
semaphore_in (Some (Semaphore d)) = Some d
semaphore_in _ = None

abbrev pub room_in : Option Desk → Option RoomDesk
room_in (Some (Room d)) = Some d
room_in _ = None

abbrev pub credit_in : Option Desk → Option CreditDesk
credit_in (Some (Credit d)) = Some d
credit_in _ = None

abbrev pub files_in : Option Desk → Option FileDesk
files_in (Some (Files d)) = Some d
files_in _ = None

abbrev pub channel_in : Option Desk → Option ChannelDesk
channel_in (Some (Channel d)) = Some d.value
channel_in _ = None

abbrev pub bundle_in : Option Desk → Option BundleDesk
bundle_in (Some (Bundle d)) = Some d.value
bundle_in _ = None

-- ---- a desk with another seat of its kind

abbrev pub with_queue : Desk → QueueDesk → Desk
with_queue d e = Queue e

abbrev pub with_semaphore : Desk → SemDesk → Desk
with_semaphore d e = Semaphore e

abbrev pub with_room : Desk → RoomDesk → Desk
with_room d e = Room e

abbrev pub with_credit : Desk → CreditDesk → Desk
with_credit d e = Credit e

abbrev pub with_files : Desk → FileDesk → Desk
with_files d e = Files e

abbrev pub with_channel : Desk → ChannelDesk → Desk
with_channel (Channel d) e = Channel (with_value d e)
with_channel d e = d

abbrev pub with_bundle : Desk → BundleDesk → Desk
with_bundle (Bundle d) e = Bundle (with_value d e)
with_bundle d e = d

-- ---- handles

-- a handle that has no seat of the kind keeps what it has
abbrev pub Spares : {D : Type 0} → (Option Desk → Option D) → Option Desk → Option Desk → Type 0
Spares kind old new = kind old ≡ None → new ≡ old

-- no call of the seat is open, and it holds nothing
abbrev pub IsAtRest : Desk → Type 0
IsAtRest (Queue d) = state_of d.seat ≡ state.Idle
IsAtRest (Semaphore d) = d.seat.standing ≡ standing.Idle
IsAtRest (Room d) = held_amount d.seat ≡ 0
IsAtRest (Credit d) = Unit {0}
IsAtRest (Files d) = d.seat.hold ≡ hold.Nothing
IsAtRest (Channel d) = IsBetweenCalls d.value.seat
IsAtRest (Bundle d) = IsResting d.value

-- a seat at rest is given up, and any other is kept
abbrev pub GivesUp : ℤ → Option Desk → Option Desk → Type 0
GivesUp code None None = code ≡ pos 6
GivesUp code None (Some e) = ⊥
GivesUp code (Some d) None = (code ≡ pos 0) × IsAtRest d
GivesUp code (Some d) (Some e) = (code ≡ pos 7) × (IsAtRest d → ⊥) × (e ≡ d)

-- a seat goes to an empty handle; else nothing changes
abbrev pub Moves : ℤ → Option Desk → Option Desk → Option Desk → Option Desk → Type 0
Moves code None to seat' to' = (code ≡ pos 6) × (seat' ≡ None) × (to' ≡ to)
Moves code (Some d) None seat' to' = (code ≡ pos 0) × (seat' ≡ None) × (to' ≡ Some d)
Moves code (Some d) (Some e) seat' to' = (code ≡ pos 7) × (seat' ≡ Some d) × (to' ≡ Some e)
