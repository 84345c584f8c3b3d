-- What opening leaves in the handles.
use Rattle.std.specs.Prelude.{◌≡◌, ◌⊎◌, ℕ, ◌<◌, ℤ, pos, List, [], length, Some, None, slice_index_or}
use Rattle.std.specs.Arc.{arc_value}
use Rattle.fak_model.specs.Calls.{seat_info}
use Rattle.fak_model.specs.Limits.{IsLargeNumberOfSeats, IsInLargeRange}
use Rattle.fak_queue.specs.Queues.{QueueInfo}
use Rattle.fak_queue.specs.Refusals.{IsLargeSize}
use Rattle.fak_count.specs.Rooms.{RoomInfo}
use Rattle.fak_count.specs.Credits.{CreditInfo}
use Rattle.fak_count.specs.Opening.{IsCount}
use Rattle.fak_files.specs.Calls.{FileTableInfo, file_seat}
use Rattle.fak_files.specs.Opening.{IsNumberOfEntries}
use Rattle.fak_files.specs.declared.phase.Hold.TheVariants.{Nothing}
use Rattle.fak_sem.specs.Semaphores.{SemInfo, seats_of}
use Rattle.fak_sem.specs.Opening.{AreLargeSizes}
use Rattle.fak_sem.specs.declared.standing.Standing.TheVariants.{Idle}
use Rattle.fak_channel.specs.Undealt.{fresh_channel_seat}
use Rattle.fak_channel.specs.declared.channel.Channel.{Channel as ChannelInfo}
use Rattle.fak_handles.specs.declared.channel.seat.Item.{Item}
use Rattle.fak_handles.specs.declared.desk.Desk.{Desk}
use Rattle.fak_handles.specs.declared.desk.Desk.TheVariants.{Queue, Semaphore, Room, Credit, Files, Channel}
use Rattle.fak_handles.specs.declared.padded_handle.PaddedHandle.{PaddedHandle}

-- the handles below this index are empty
abbrev pub AreEmptyBelow : ℕ → List PaddedHandle → Type 0
AreEmptyBelow n handles = (i : ℕ) (d : PaddedHandle) → i < n → (slice_index_or handles i d).handle.desk ≡ None

abbrev pub AreEmpty : List PaddedHandle → Type 0
AreEmpty handles = AreEmptyBelow (length handles) handles

-- the handle has the seat of this name, as it was opened
pub record HasSeat (IsFresh : ℕ → Desk → Type 0) (name : ℕ) (p : PaddedHandle) : Type 0 where
  pub desk : Desk
  pub held : p.handle.desk ≡ Some desk
  pub fresh : IsFresh name desk

-- the handles below this index have the seats named by their indexes
abbrev pub AreSeatedBelow : (ℕ → Desk → Type 0) → ℕ → List PaddedHandle → Type 0
AreSeatedBelow IsFresh n handles = (name : ℕ) (d : PaddedHandle) → name < n → HasSeat IsFresh name (slice_index_or handles name d)

-- the object was opened, or a number is out of range, or there was no memory; a failed call leaves all handles empty
abbrev pub Opens : ℤ → Type 0 → Type 0 → List PaddedHandle → Type 0
Opens code InRange Opened handles =
    ((code ≡ pos 0) × InRange × Opened)
    ⊎ ((code ≡ pos 8) × ¬ InRange × AreEmpty handles)
    ⊎ ((code ≡ pos 9) × InRange × AreEmpty handles)

-- ---- the seats of each kind, as they are opened

abbrev pub IsFreshQueue : QueueInfo → ℕ → ℕ → Desk → Type 0
IsFreshQueue queue stint name (Queue d) = (arc_value d.queue ≡ queue) × (d.seat ≡ seat_info queue.object name stint [])
IsFreshQueue queue stint name _ = ⊥

abbrev pub IsFreshRoom : RoomInfo → ℕ → ℕ → Desk → Type 0
IsFreshRoom room stint name (Room d) = (arc_value d.room ≡ room) × (d.seat ≡ seat_info room.object name stint [])
IsFreshRoom room stint name _ = ⊥

abbrev pub IsFreshCredit : CreditInfo → ℕ → ℕ → Desk → Type 0
IsFreshCredit credit stint name (Credit d) = (arc_value d.credit ≡ credit) × (d.seat ≡ seat_info credit.object name stint [])
IsFreshCredit credit stint name _ = ⊥

abbrev pub IsFreshFile : FileTableInfo → ℕ → ℕ → Desk → Type 0
IsFreshFile table stint name (Files d) = (arc_value d.table ≡ table) × (d.seat ≡ file_seat (seat_info table.object name stint []) Nothing)
IsFreshFile table stint name _ = ⊥

abbrev pub IsFreshSem : SemInfo → ℕ → ℕ → Desk → Type 0
IsFreshSem sem stint name (Semaphore d) =
    (arc_value d.semaphore ≡ sem) × (d.seat.standing ≡ Idle) × (d.seat.seat ≡ record { object = sem.object; name = name; stint = stint; credit_seen = []; queue_seen = [] })
IsFreshSem sem stint name _ = ⊥

abbrev pub IsFreshChannel : ChannelInfo Item → ℕ → ℕ → Desk → Type 0
IsFreshChannel channel stint name (Channel d) = (arc_value d.value.channel ≡ channel) × (d.value.seat ≡ fresh_channel_seat channel stint name)
IsFreshChannel channel stint name _ = ⊥

-- ---- each kind of object, as it is opened: each handle has a seat of one object

pub record IsOpenedQueue (size stint : ℕ) (handles : List PaddedHandle) : Type 0 where
  pub queue : QueueInfo
  pub size_is : queue.size ≡ size
  pub seats_are : queue.object.seats ≡ length handles
  pub seated : AreSeatedBelow (IsFreshQueue queue stint) (length handles) handles

pub record IsOpenedRoom (bound stint : ℕ) (handles : List PaddedHandle) : Type 0 where
  pub room : RoomInfo
  pub bound_is : room.bound ≡ bound
  pub seats_are : room.object.seats ≡ length handles
  pub seated : AreSeatedBelow (IsFreshRoom room stint) (length handles) handles

pub record IsOpenedCredit (start stint : ℕ) (handles : List PaddedHandle) : Type 0 where
  pub credit : CreditInfo
  pub start_is : credit.start ≡ start
  pub seats_are : credit.object.seats ≡ length handles
  pub seated : AreSeatedBelow (IsFreshCredit credit stint) (length handles) handles

pub record IsOpenedTable (entries stint : ℕ) (handles : List PaddedHandle) : Type 0 where
  pub table : FileTableInfo
  pub entries_are : table.entries ≡ entries
  pub seats_are : table.object.seats ≡ length handles
  pub seated : AreSeatedBelow (IsFreshFile table stint) (length handles) handles

pub record IsOpenedSem (start size stint : ℕ) (handles : List PaddedHandle) : Type 0 where
  pub sem : SemInfo
  pub start_is : sem.object.start ≡ start
  pub size_is : sem.size ≡ size
  pub seats_are : seats_of sem.object ≡ length handles
  pub seated : AreSeatedBelow (IsFreshSem sem stint) (length handles) handles

pub record IsOpenedChannel (size stint : ℕ) (handles : List PaddedHandle) : Type 0 where
  pub channel : ChannelInfo Item
  pub size_is : channel.queue.size ≡ size
  pub seats_are : channel.queue.object.seats ≡ length handles
  pub seated : AreSeatedBelow (IsFreshChannel channel stint) (length handles) handles

abbrev pub OpensQueue : ℤ → ℕ → ℕ → List PaddedHandle → Type 0
OpensQueue code size stint handles = Opens code (IsInLargeRange (IsLargeSize size) (length handles) stint) (IsOpenedQueue size stint handles) handles

abbrev pub OpensRoom : ℤ → ℕ → ℕ → List PaddedHandle → Type 0
OpensRoom code bound stint handles = Opens code (IsInLargeRange (IsCount bound) (length handles) stint) (IsOpenedRoom bound stint handles) handles

abbrev pub OpensCredit : ℤ → ℕ → ℕ → List PaddedHandle → Type 0
OpensCredit code start stint handles = Opens code (IsInLargeRange (IsCount start) (length handles) stint) (IsOpenedCredit start stint handles) handles

abbrev pub OpensTable : ℤ → ℕ → ℕ → List PaddedHandle → Type 0
OpensTable code entries stint handles = Opens code (IsInLargeRange (IsNumberOfEntries entries) (length handles) stint) (IsOpenedTable entries stint handles) handles

abbrev pub OpensSem : ℤ → ℕ → ℕ → ℕ → List PaddedHandle → Type 0
OpensSem code start size stint handles = Opens code (IsInLargeRange (AreLargeSizes start size) (length handles) stint) (IsOpenedSem start size stint handles) handles

abbrev pub OpensChannel : ℤ → ℕ → ℕ → List PaddedHandle → Type 0
OpensChannel code size stint handles = Opens code (IsInLargeRange (IsLargeSize size) (length handles) stint) (IsOpenedChannel size stint handles) handles

-- an object may have this many handles, and the call opens them or returns why not; or it may not, and the call keeps them
abbrev pub OpensOrKeeps : ℤ → List PaddedHandle → List PaddedHandle → Type 0 → Type 0
OpensOrKeeps code old new IsAnswered =
    (IsLargeNumberOfSeats (length old) → IsAnswered) × (¬ IsLargeNumberOfSeats (length old) → (code ≡ pos 8) × (new ≡ old))
