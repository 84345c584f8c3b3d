-- What the steps of a seat ask of its token, and what they leave.
use Rattle.std.specs.Prelude.{ℕ, ◌≡◌, List, [], ◌∷◌, Option, Some}
use Rattle.atomic_table.specs.Seated.{TableId}
use Rattle.atomic_table.specs.declared.shared.Seat.{Seat}
use Rattle.fak_model.specs.Views.{HasOneName}
use Rattle.fak_core.specs.declared.queue.phase.Phase.{Phase}
use Rattle.fak_core.specs.declared.queue.phase.Phase.TheVariants.{StoreItem}
use Rattle.fak_queue.specs.declared.limits.QueueLimits.{QueueLimits}
use Rattle.fak_queue.specs.declared.ticket_cell.TicketCell.{TicketCell}
use Rattle.fak_queue.specs.declared.phases.Phases.TheVariants.{Alike}
use Rattle.fak_queue.specs.Shown.{QueueHolder, QueueView}
use Rattle.fak_queue.specs.Steps.{FitsTable, IsPlace, Named}

abbrev pub QueueToken : Type 0 → Type 0
QueueToken T = Seat (Option T) (QueueView T)

-- the seat is at this phase
abbrev pub StandsAt : {T : Type 0} → Phase T → QueueHolder T → Type 0
StandsAt phase me = me.0.phase ≡ Some (Alike phase)

-- the seat is at this phase with some item
abbrev pub StandsWithItem : {T : Type 0} → (T → Phase T) → QueueHolder T → Type 0
StandsWithItem {T} phase_of me = (x : T) × StandsAt (phase_of x) me

-- the seat is to make the cell of this place full, and has its slot with the item
abbrev pub StoresItem : {T : Type 0} → TicketCell → QueueHolder T → Type 0
StoresItem {T} at me = (x : T) × (me.0.phase ≡ Some (Alike (StoreItem at.ticket x))) × ((others : List (ℕ × Option T)) × (me.1 ≡ (at.cell, Some x) ∷ others))

-- the token belongs to this table, which was made with this key for this many seats. It is the token of one seat; `stands` holds
-- for its view and its slots.
pub record IsTokenOf {T : Type 0} (id : TableId) (key : QueueLimits) (seats : ℕ) (stands : QueueHolder T → Type 0) (token : QueueToken T) : Type 0 where
  pub table : FitsTable token.table_id id key seats
  pub seat : HasOneName token.me.0
  pub phase : stands token.me

-- the same, and has no slot
pub record IsFreeToken {T : Type 0} (id : TableId) (key : QueueLimits) (seats : ℕ) (stands : QueueHolder T → Type 0) (token : QueueToken T) : Type 0 where
  pub table : FitsTable token.table_id id key seats
  pub seat : HasOneName token.me.0
  pub free : token.me.1 ≡ []
  pub phase : stands token.me

-- the token of one seat, whose ticket has this place
pub record IsTokenAt {T : Type 0} (id : TableId) (key : QueueLimits) (seats : ℕ) (at : TicketCell) (stands : QueueHolder T → Type 0) (token : QueueToken T) : Type 0 where
  pub table : FitsTable token.table_id id key seats
  pub place : IsPlace id.slots at
  pub seat : HasOneName token.me.0
  pub phase : stands token.me

-- the same, and has no slot
pub record IsFreeTokenAt {T : Type 0} (id : TableId) (key : QueueLimits) (seats : ℕ) (at : TicketCell) (stands : QueueHolder T → Type 0) (token : QueueToken T) : Type 0 where
  pub table : FitsTable token.table_id id key seats
  pub place : IsPlace id.slots at
  pub seat : HasOneName token.me.0
  pub free : token.me.1 ≡ []
  pub phase : stands token.me

-- a step leaves the token with its table, and `tells` holds for the seat's name and for what the token knows now
pub record Tells {T : Type 0} (old new : QueueToken T) (tells : ℕ → QueueHolder T → Type 0) : Type 0 where
  pub same : new.table_id ≡ old.table_id
  pub told : Named old.me (λ n. tells n new.me)
