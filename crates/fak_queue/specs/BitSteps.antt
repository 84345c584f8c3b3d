-- What each step on the bits of sleepers asks of a seat, and what it tells it. Such a step comes between two calls of the seat on
-- the queue. It leaves no mark, and adds a note or none.
use Rattle.std.specs.Prelude.{◌≡◌, ◌≢◌, ℕ, ◌*◌, ◌%◌, ◌^◌, pos, Bool, true, false, not, ◌&&◌, int_lt, List, [], length, reverse, Ok, Err}
use Rattle.std.specs.Int.{bit_not, w64}
use Rattle.fak_model.specs.declared.note.Note.{Note}
use Rattle.fak_model.specs.declared.note.NoteKind.{NoteKind}
use Rattle.fak_model.specs.declared.note.NoteKind.TheVariants.{AsSender, AsReceiver, Checks}
use Rattle.fak_model.specs.declared.note.Sign.TheVariants.{Registers, FindsNoItem, FallsAsleep, IsWoken, TakesBack, FindsBit, GivesUp, PassesWord, FindsWord, WakesEnd}
use Rattle.fak_model.specs.declared.queue.Mark.{Mark}
use Rattle.fak_model.specs.declared.queue.Kind.TheVariants.{Close}
use Rattle.fak_model.specs.Queue.{Has}
use Rattle.fak_model.specs.Shown.{TellsNothing}
use Rattle.fak_model.specs.Views.{noting}
use Rattle.fak_core.specs.declared.queue.phase.Phase.TheVariants.{Idle}
use Rattle.fak_queue.specs.declared.found.NoRoom.TheVariants.{Full, Shut}
use Rattle.fak_queue.specs.declared.in_use.InUse.{InUse}
use Rattle.fak_queue.specs.declared.role.Role.{Role}
use Rattle.fak_queue.specs.Accounts.{kinds_by}
use Rattle.fak_queue.specs.Drained.{IsDrained}
use Rattle.fak_queue.specs.Found.{HasRoom, HasNoRoom, HasItem, HasNoItem}
use Rattle.fak_queue.specs.Shown.{QueueHolder}
use Rattle.fak_queue.specs.Sleepers.{as_role}
use Rattle.fak_queue.specs.Steps.{Marks}
use Rattle.fak_queue.specs.Words.{UpperCount, LowerCount, IsUpperCount, IsLowerCount, IsInUse}

-- the bit of this name in its word, and all other bits
abbrev pub mask_of : ℕ → ℕ
mask_of k = 1 * 2 ^ (k % 64) % 2 ^ 64

abbrev pub others_of : ℕ → ℕ
others_of k = bit_not w64 (mask_of k)

-- a word of the upper count shows that the queue is shut, and has no item and no open insertion
abbrev pub is_drained : InUse → Bool
is_drained u = u.is_shut && not (int_lt (pos 0) u.count)

module _ {T : Type 0} where
  -- the note of this kind that the seat adds
  abbrev pub note_by : ℕ → NoteKind → QueueHolder T → Note
  note_by n k m = record { kind = k; after = length (kinds_by n m.0.seen) }

  -- it adds this note
  abbrev pub Notes : ℕ → ℕ → ℕ → NoteKind → (List (Mark T) → Type 0) → QueueHolder T → QueueHolder T → Type 0
  Notes size seats n k tells m after = Marks size seats (noting (note_by n k m) m.0, m.1) [] Idle tells after

  -- it adds none
  abbrev pub NotesNothing : ℕ → ℕ → (List (Mark T) → Type 0) → QueueHolder T → QueueHolder T → Type 0
  NotesNothing size seats tells m after = Marks size seats m [] Idle tells after

module _ {T : Type 0} (size seats n : ℕ) where
  -- ---- the own bit

  abbrev pub SetBit : Role → QueueHolder T → QueueHolder T → Type 0
  SetBit role m after = Notes size seats n (as_role role Registers) TellsNothing m after

  -- the bit is still set, or another end has cleared it
  abbrev pub SawBit : Role → Bool → QueueHolder T → QueueHolder T → Type 0
  SawBit role true m after = Notes size seats n (as_role role (FindsBit n true)) TellsNothing m after
  SawBit role false m after = Notes size seats n (as_role role IsWoken) TellsNothing m after

  -- the bit is clear now. It was set, or another end had cleared it
  abbrev pub TookBack : Role → Bool → QueueHolder T → QueueHolder T → Type 0
  TookBack role true m after = Notes size seats n (as_role role TakesBack) TellsNothing m after
  TookBack role false m after = Notes size seats n (as_role role IsWoken) TellsNothing m after

  abbrev pub GaveUp : Role → QueueHolder T → QueueHolder T → Type 0
  GaveUp role m after = Notes size seats n (as_role role GivesUp) TellsNothing m after

  -- ---- a look

  -- no bit of this word is set, or some
  pub record Looked (role : Role) (word found : ℕ) (m after : QueueHolder T) : Type 0 where
    pub none : found ≡ 0 → Notes size seats n (as_role role (PassesWord word)) TellsNothing m after
    pub some : found ≢ 0 → Notes size seats n (as_role role (FindsWord word found)) TellsNothing m after

  -- the bit of end k is clear now. If it was set, this has woken that end; if not, the note says so
  abbrev pub Cleared : Role → ℕ → Bool → QueueHolder T → QueueHolder T → Type 0
  Cleared role k true m after = Notes size seats n (as_role role (WakesEnd k)) TellsNothing m after
  Cleared role k false m after = Notes size seats n (as_role role (FindsBit k false)) TellsNothing m after

  -- ---- tests

  -- the second test of a sender: it falls asleep if there is no room and the queue is open
  abbrev pub TestedRoomAgain : UpperCount → QueueHolder T → QueueHolder T → Type 0
  TestedRoomAgain (Ok room) m after = NotesNothing size seats (λ past. HasRoom size (reverse past)) m after
  TestedRoomAgain (Err (Full u)) m after = Notes size seats n (AsSender FallsAsleep) (λ past. HasNoRoom size u (reverse past)) m after
  TestedRoomAgain (Err Shut) m after = NotesNothing size seats (λ past. Has Close (reverse past)) m after

  -- the second test of a receiver, of the lower count
  abbrev pub TestedItemAgain : LowerCount → QueueHolder T → QueueHolder T → Type 0
  TestedItemAgain (Ok stock) m after = NotesNothing size seats (λ past. HasItem (reverse past)) m after
  TestedItemAgain (Err l) m after = Notes size seats n (AsReceiver FindsNoItem) (λ past. HasNoItem l (reverse past)) m after

  -- the rest of that test: it falls asleep unless the channel is drained
  abbrev pub TestedDrainedAgain : Bool → QueueHolder T → QueueHolder T → Type 0
  TestedDrainedAgain true m after = NotesNothing size seats (λ past. IsDrained (reverse past)) m after
  TestedDrainedAgain false m after = Notes size seats n (AsReceiver FallsAsleep) (λ past. IsDrained (reverse past) → ⊥) m after

  -- the check of an end that may have drained the channel
  abbrev pub CheckedDrained : Bool → QueueHolder T → QueueHolder T → Type 0
  CheckedDrained true m after = Notes size seats n (Checks true) (λ past. IsDrained (reverse past)) m after
  CheckedDrained false m after = Notes size seats n (Checks false) (λ past. IsDrained (reverse past) → ⊥) m after

  -- ---- by the word that was found

  abbrev pub TestsRoomAgain : QueueHolder T → ℕ → QueueHolder T → Type 0
  TestsRoomAgain m found after = (u : UpperCount) → IsUpperCount size found u → TestedRoomAgain u m after

  abbrev pub TestsItemAgain : QueueHolder T → ℕ → QueueHolder T → Type 0
  TestsItemAgain m found after = (l : LowerCount) → IsLowerCount found l → TestedItemAgain l m after

  abbrev pub TestsDrainedAgain : QueueHolder T → ℕ → QueueHolder T → Type 0
  TestsDrainedAgain m found after = (u : InUse) → IsInUse found u → TestedDrainedAgain (is_drained u) m after

  abbrev pub ChecksDrained : QueueHolder T → ℕ → QueueHolder T → Type 0
  ChecksDrained m found after = (u : InUse) → IsInUse found u → CheckedDrained (is_drained u) m after
