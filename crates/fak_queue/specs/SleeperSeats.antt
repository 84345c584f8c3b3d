-- What callers see of a seat that can sleep, and what its calls and its steps on the bits do to it.
use Rattle.std.specs.Prelude.{◌≡◌, ◌≢◌, ℕ, ◌+◌, ◌-◌, ◌*◌, ◌<◌, ◌≤◌, ℤ, Bool, true, false, List, [], ◌∷◌, reverse, Option, Some, None, Result, Ok, Err}
use Rattle.fak_model.specs.declared.note.Note.{Note}
use Rattle.fak_model.specs.declared.note.NoteKind.{NoteKind}
use Rattle.fak_model.specs.declared.note.NoteKind.TheVariants.{AsSender, AsReceiver, Checks}
use Rattle.fak_model.specs.declared.note.Sign.TheVariants.{FindsNoItem, FallsAsleep, IsWoken, TakesBack, FindsBit, PassesWord, FindsWord, WakesEnd}
use Rattle.fak_model.specs.declared.queue.Kind.{Kind}
use Rattle.fak_model.specs.declared.queue.Kind.TheVariants.{Close}
use Rattle.fak_model.specs.declared.queue.Mark.{Mark}
use Rattle.fak_model.specs.Limits.{large_seats}
use Rattle.fak_model.specs.Queue.{Has}
use Rattle.fak_model.specs.Views.{names_from}
use Rattle.fak_core.specs.declared.queue.phase.Phase.TheVariants.{Idle}
use Rattle.fak_model.specs.Calls.{ObjectId, SeatInfo, seat_info}
use Rattle.fak_channel_core.specs.SleeperMoves.{Account, after_note}
use Rattle.fak_queue.specs.declared.found.NoRoom.{NoRoom}
use Rattle.fak_queue.specs.declared.found.NoRoom.TheVariants.{Full, Shut}
use Rattle.fak_queue.specs.declared.role.Role.{Role}
use Rattle.fak_queue.specs.Accounts.{AreWithin, after_kinds}
use Rattle.fak_queue.specs.Drained.{IsDrained}
use Rattle.fak_queue.specs.Found.{HasRoom, HasNoRoom, HasItem, HasNoItem}
use Rattle.fak_queue.specs.Queues.{Makes, drawn_by, made_by, state_of}
use Rattle.fak_queue.specs.SeatParts.{PartsInfo}
use Rattle.fak_queue.specs.Shown.{QueueHolder, sight}
use Rattle.fak_queue.specs.SleeperRest.{account_by, marks_by}
use Rattle.fak_queue.specs.Sleepers.{as_role}

-- ---- seats

-- a seat, and all that it has noted of its steps on the bits, newest note first
pub record SleeperInfo (T : Type 0) : Type 0 where
  pub seat : SeatInfo (Mark T)
  pub notes : List Note

-- its account as an end of a channel, by its notes and marks
abbrev pub account_of_seat : {T : Type 0} → SleeperInfo T → Account
account_of_seat s = account_by s.seat.object.seats s.notes s.seat

-- a seat that an opening deals: it has seen and noted nothing
abbrev pub fresh_sleeper : {T : Type 0} → ObjectId → ℕ → ℕ → SleeperInfo T
fresh_sleeper object stint name = record { seat = seat_info object name stint []; notes = [] }

-- the seat 0, which has left marks of these kinds, has noted this, and has seen nothing else
abbrev pub lone_sleeper : {T : Type 0} → ObjectId → List (Kind T) → List Note → SleeperInfo T
lone_sleeper object kinds notes = record { seat = seat_info object 0 0 (made_by 0 kinds); notes = notes }

-- the notes, if they are known
abbrev pub notes_in : Option (List Note) → List Note
notes_in None = []
notes_in (Some notes) = notes

abbrev pub sleeper_info : {T : Type 0} → PartsInfo T → SleeperInfo T
sleeper_info p = record { seat = p.seat; notes = notes_in p.noted }

-- what the type keeps: all notes of the seat are known, and the newest comes after at most the marks that the seat has left
pub record KnowsNotes {T : Type 0} (p : PartsInfo T) : Type 0 where
  pub known : p.noted ≡ Some (notes_in p.noted)
  pub within : AreWithin (notes_in p.noted) (marks_by p.seat)

-- ---- calls on the queue

-- a call on the queue leaves the notes as they are, and its marks tell how the account changes
pub record KeepsNotes {T : Type 0} (size : ℕ) (old new : SleeperInfo T) : Type 0 where
  pub notes : new.notes ≡ old.notes
  pub account : (kinds : List (Kind T)) → Makes size kinds old.seat new.seat
      → account_of_seat new ≡ after_kinds old.seat.object.seats (reverse kinds) (account_of_seat old)

-- ---- steps on the bits

-- the note of this kind that the seat adds now
abbrev pub note_of : {T : Type 0} → NoteKind → SleeperInfo T → Note
note_of k s = record { kind = k; after = marks_by s.seat }

-- a step that leaves no mark: the seat has perhaps seen more, and has these notes and this account
pub record LeavesNoMark {T : Type 0} (size : ℕ) (notes : List Note) (g : Account) (old new : SleeperInfo T) : Type 0 where
  pub object : new.seat.object ≡ old.seat.object
  pub state : state_of new.seat ≡ state_of old.seat
  pub left : drawn_by new.seat ≡ drawn_by old.seat
  pub makes : Makes size [] old.seat new.seat
  pub notes_are : new.notes ≡ notes
  pub account : account_of_seat new ≡ g

-- it adds a note of this kind
abbrev pub AddsNote : {T : Type 0} → ℕ → NoteKind → SleeperInfo T → SleeperInfo T → Type 0
AddsNote size k old new = LeavesNoMark size (note_of k old ∷ old.notes) (after_note old.seat.object.seats k (account_of_seat old)) old new

-- it adds no note
abbrev pub AddsNoNote : {T : Type 0} → ℕ → SleeperInfo T → SleeperInfo T → Type 0
AddsNoNote size old new = LeavesNoMark size old.notes (account_of_seat old) old new

module _ {T : Type 0} (size : ℕ) where
  -- the own bit is still set, or another end has cleared it
  abbrev pub SeesBit : Role → Bool → SleeperInfo T → SleeperInfo T → Type 0
  SeesBit role true old new = AddsNote size (as_role role (FindsBit old.seat.name true)) old new
  SeesBit role false old new = AddsNote size (as_role role IsWoken) old new

  -- the own bit is clear now. It was set, or another end had cleared it
  abbrev pub TakesBit : Role → Bool → SleeperInfo T → SleeperInfo T → Type 0
  TakesBit role true old new = AddsNote size (as_role role TakesBack) old new
  TakesBit role false old new = AddsNote size (as_role role IsWoken) old new

  -- no bit of this word is set, or those of the number that was found
  pub record LooksAt (role : Role) (word found : ℕ) (old new : SleeperInfo T) : Type 0 where
    pub none : found ≡ 0 → AddsNote size (as_role role (PassesWord word)) old new
    pub some : found ≢ 0 → AddsNote size (as_role role (FindsWord word found)) old new

  -- the bit of end k is clear now. If it was set, this has woken that end; if not, the note says so
  abbrev pub ClearsBit : Role → ℕ → Bool → SleeperInfo T → SleeperInfo T → Type 0
  ClearsBit role k true old new = AddsNote size (as_role role (WakesEnd k)) old new
  ClearsBit role k false old new = AddsNote size (as_role role (FindsBit k false)) old new

  -- the second test of a sender. If there is no room and the queue is open, it falls asleep
  abbrev pub TestsRoom : Result (Unit {0}) NoRoom → SleeperInfo T → SleeperInfo T → Type 0
  TestsRoom (Ok room) old new = AddsNoNote size old new × HasRoom size new.seat.seen
  TestsRoom (Err (Full u)) old new = AddsNote size (AsSender FallsAsleep) old new × HasNoRoom size u new.seat.seen
  TestsRoom (Err Shut) old new = AddsNoNote size old new × Has Close new.seat.seen

  -- the second test of a receiver, of the lower count
  abbrev pub TestsItem : Result (Unit {0}) ℤ → SleeperInfo T → SleeperInfo T → Type 0
  TestsItem (Ok stock) old new = AddsNoNote size old new × HasItem new.seat.seen
  TestsItem (Err l) old new = AddsNote size (AsReceiver FindsNoItem) old new × HasNoItem l new.seat.seen

  -- the rest of that test. If the channel is not drained, the receiver falls asleep
  abbrev pub TestsDrained : Bool → SleeperInfo T → SleeperInfo T → Type 0
  TestsDrained true old new = AddsNoNote size old new × IsDrained new.seat.seen
  TestsDrained false old new = AddsNote size (AsReceiver FallsAsleep) old new × (IsDrained new.seat.seen → ⊥)

  -- the check of an end that may have drained the channel
  abbrev pub ChecksDrained : Bool → SleeperInfo T → SleeperInfo T → Type 0
  ChecksDrained true old new = AddsNote size (Checks true) old new × IsDrained new.seat.seen
  ChecksDrained false old new = AddsNote size (Checks false) old new × (IsDrained new.seat.seen → ⊥)

-- ---- dealing

-- the seats of a queue that are still to be dealt: those from the name `next` on
pub record UndealtInfo : Type 0 where
  pub object : ObjectId
  pub stint : ℕ
  pub next : ℕ

abbrev pub undealt_info : ObjectId → ℕ → ℕ → UndealtInfo
undealt_info object stint next = record { object = object; stint = stint; next = next }

-- what the type keeps: a token of these names, which have seen and noted nothing
pub record AreUndealt {T : Type 0} (seats stint next : ℕ) (me : QueueHolder T) : Type 0 where
  pub few : seats ≤ large_seats
  pub some : next ≤ seats
  pub me_is : me ≡ (sight (names_from next (seats - next)) (Some []) [] Idle ((seats - next) * stint), [])

-- the next seat was dealt, or there was none left
abbrev pub DealsNext : {T : Type 0} → UndealtInfo → UndealtInfo → Option (SleeperInfo T) → Type 0
DealsNext old new None = (new ≡ old) × (old.next ≡ old.object.seats)
DealsNext old new (Some s) = (old.next < old.object.seats) × (s ≡ fresh_sleeper old.object old.stint old.next) × (new ≡ record old { next = old.next + 1 })
