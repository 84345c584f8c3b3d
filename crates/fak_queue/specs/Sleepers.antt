-- The sleepers of a channel, in a queue's table. Their bits are in the sixteen words before the counts and in the sixteen
-- after the turns, 64 to a word.
use Rattle.std.specs.Prelude.{◌≡◌, ℕ, ◌+◌, ◌/◌, ◌%◌, ◌<◌, Bool, List, length, slice_index}
use Rattle.fak_model.specs.declared.note.Note.{Note}
use Rattle.fak_model.specs.declared.note.NoteKind.{NoteKind}
use Rattle.fak_model.specs.declared.note.NoteKind.TheVariants.{AsSender, AsReceiver}
use Rattle.fak_model.specs.declared.note.Sign.{Sign}
use Rattle.fak_core.specs.QueueMoves.{QueueState}
use Rattle.fak_channel_core.specs.SleeperSides.{Duty, has_bit}
use Rattle.fak_channel_core.specs.SleeperMoves.{Account, SleeperState}
use Rattle.fak_channel_core.specs.SleeperSchedule.{SleeperEvent, sleeper_reached}
use Rattle.fak_queue.specs.declared.role.Role.{Role}
use Rattle.fak_queue.specs.declared.role.Role.TheVariants.{Sender, Receiver}
use Rattle.fak_queue.specs.Accounts.{account_of, kinds_by, AreWithin}

-- ---- roles

-- a sign of an end in this role
abbrev pub as_role : Role → Sign → NoteKind
as_role Sender v = AsSender v
as_role Receiver v = AsReceiver v

-- the part of an account for this role
abbrev pub duty_as : Role → Account → Duty
duty_as Sender g = g.sender
duty_as Receiver g = g.receiver

-- the bits of this role
abbrev pub bits_as : {T : Type 0} → Role → SleeperState T → ℕ → Bool
bits_as Sender s = s.senders
bits_as Receiver s = s.receivers

-- the first word of this role's bits, in the table of a queue of this size
abbrev pub first_bits : Role → ℕ → ℕ
first_bits Sender size = 0
first_bits Receiver size = 80 + size

-- ---- bits

-- the bit of this name is set in the words
abbrev pub is_set : Role → ℕ → List ℕ → ℕ → Bool
is_set role size words k = has_bit (slice_index words (first_bits role size + k / 64)) (k % 64)

-- ---- the sleepers of a queue

-- a channel of this many ends, reached by some schedule, has this queue, these bits and the accounts that the notes and the
-- marks tell
pub record AreSleepers {T : Type 0} (size seats : ℕ) (core : QueueState T) (notes : ℕ → List Note) (words : List ℕ) : Type 0 where
  pub state : SleeperState T
  pub queue : state.queue ≡ core
  pub schedule : List (SleeperEvent T)
  pub leads : sleeper_reached seats size schedule ≡ state
  pub bits : (role : Role) (k : ℕ) → k < 1024 → is_set role size words k ≡ bits_as role state k
  pub accounts : (k : ℕ) → state.accounts k ≡ account_of seats (notes k) (kinds_by k core.past)
  pub within : (k : ℕ) → AreWithin (notes k) (length (kinds_by k core.past))
