-- What the steps of a bundle ask of its token, and what they leave.
use Rattle.std.specs.Prelude.{ℕ, ◌≡◌, ◌≤◌, List, [], ◌++◌, length}
use Rattle.atomic_table.specs.Seated.{TableId}
use Rattle.fak_model.specs.Limits.{large_seats}
use Rattle.fak_model.specs.Seats.{In}
use Rattle.fak_core.specs.QueueBlocks.{AreApart, Posts, names_of}
use Rattle.fak_queue.specs.declared.limits.QueueLimits.{QueueLimits}
use Rattle.fak_queue.specs.declared.ticket_cell.TicketCell.{TicketCell}
use Rattle.fak_queue.specs.Bundles.{IsLawful}
use Rattle.fak_queue.specs.Bursts.{AllIn, AreDisjoint}
use Rattle.fak_queue.specs.Shown.{QueueHolder}
use Rattle.fak_queue.specs.Steps.{FitsTable, IsPlace}
use Rattle.fak_queue.specs.StepTokens.{QueueToken}

-- the token belongs to this table, which was made with this key for this many seats; `stands` holds for its view and its slots
pub record IsBundleToken {T : Type 0} (id : TableId) (key : QueueLimits) (seats : ℕ) (stands : QueueHolder T → Type 0) (token : QueueToken T) : Type 0 where
  pub table : FitsTable token.table_id id key seats
  pub phase : stands token.me

-- the same, and these names, each with its item, and those of the others are all among the token's, each once
pub record IsBurstToken {T A : Type 0} (id : TableId) (key : QueueLimits) (seats : ℕ) (items : List (ℕ × A)) (others : Posts T) (stands : QueueHolder T → Type 0) (token : QueueToken T) : Type 0 where
  pub table : FitsTable token.table_id id key seats
  pub names : AreApart (names_of items) × AreDisjoint (names_of items) (names_of others) × AllIn (names_of items ++ names_of others) token.me.0.names
  pub phase : stands token.me

-- the token of a bundle of these names, of which this many take part in a burst; `stands` holds as above
pub record IsClaimToken {T : Type 0} (id : TableId) (key : QueueLimits) (own : List ℕ) (many : ℕ) (stands : QueueHolder T → Type 0) (token : QueueToken T) : Type 0 where
  pub table : FitsTable token.table_id id key key.seats
  pub names : AreApart own × (token.me.0.names ≡ own) × (many ≤ length own)
  pub phase : stands token.me

-- the token of a bundle that has this name, whose ticket has this place
pub record IsNameAt {T : Type 0} (id : TableId) (key : QueueLimits) (seats : ℕ) (at : TicketCell) (own : ℕ) (stands : QueueHolder T → Type 0) (token : QueueToken T) : Type 0 where
  pub table : FitsTable token.table_id id key seats
  pub place : IsPlace id.slots at
  pub name : In own token.me.0.names
  pub phase : stands token.me

-- the token of a bundle of these names at a queue of this size, which holds no slot; `stands` holds as above
pub record IsWorkToken {T : Type 0} (id : TableId) (key : QueueLimits) (size : ℕ) (own : List ℕ) (stands : QueueHolder T → Type 0) (token : QueueToken T) : Type 0 where
  pub table : FitsTable token.table_id id key key.seats
  pub cells : size ≡ id.slots
  pub names : AreApart own × (length own ≤ large_seats)
  pub slots : token.me.1 ≡ []
  pub lawful : IsLawful id.slots key.seats token.me.0
  pub phase : stands token.me

-- a step leaves the token with its table, and `tells` holds for what the token knows now
pub record TellsAll {T : Type 0} (old new : QueueToken T) (tells : QueueHolder T → Type 0) : Type 0 where
  pub same : new.table_id ≡ old.table_id
  pub told : tells new.me
