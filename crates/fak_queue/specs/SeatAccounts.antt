-- What a seat knows of its own account as an end of a channel.
use Rattle.std.specs.Prelude.{◌≡◌, ℕ, List, length, Some}
use Rattle.fak_model.specs.declared.note.Note.{Note}
use Rattle.fak_channel_core.specs.SleeperMoves.{Account}
use Rattle.fak_queue.specs.Accounts.{account_of, kinds_by, AreWithin}
use Rattle.fak_queue.specs.Shown.{QueueHolder}
use Rattle.fak_queue.specs.Steps.{Named}

-- the seat knows all its own notes. By these and its marks, its account is such
pub record HasAccount {T : Type 0} (seats : ℕ) (is : Account → Type 0) (m : QueueHolder T) : Type 0 where
  pub notes : List Note
  pub known : m.0.noted ≡ Some notes
  pub account : Named m (λ n. is (account_of seats notes (kinds_by n m.0.seen)))

-- the seat n knows all its own notes, and its account is this one
pub record KnowsAccount {T : Type 0} (seats n : ℕ) (g : Account) (m : QueueHolder T) : Type 0 where
  pub notes : List Note
  pub known : m.0.noted ≡ Some notes
  pub within : AreWithin notes (length (kinds_by n m.0.seen))
  pub account : account_of seats notes (kinds_by n m.0.seen) ≡ g
