-- When the seats of a queue are at rest as ends of a channel, in the terms of the table and of what the seats know.
use Rattle.std.specs.Prelude.{◌≡◌, ◌⊎◌, ℕ, ◌<◌, true, false, List, length, reverse, Option, Some}
use mathlib.Core.Option.{some}
use lib.ListN.{get_elem?}
use Rattle.atomic_table.specs.Table.{State}
use Rattle.fak_model.specs.declared.note.Note.{Note}
use Rattle.fak_model.specs.declared.queue.Mark.{Mark}
use Rattle.fak_model.specs.Calls.{SeatInfo}
use Rattle.fak_model.specs.Seats.{In}
use Rattle.fak_core.specs.declared.queue.phase.Phase.TheVariants.{Idle}
use Rattle.fak_channel_core.specs.SleeperSides.{Awake, Asleep}
use Rattle.fak_channel_core.specs.SleeperMoves.{Account}
use Rattle.fak_queue.specs.declared.limits.QueueLimits.{QueueLimits}
use Rattle.fak_queue.specs.declared.role.Role.{Role}
use Rattle.fak_queue.specs.declared.phases.Phases.TheVariants.{Alike}
use Rattle.fak_queue.specs.Accounts.{account_of, kinds_by}
use Rattle.fak_queue.specs.Shown.{QueueView}
use Rattle.fak_queue.specs.Sleepers.{duty_as, is_set}

-- the account owes no look and no check
pub record OwesNothing (g : Account) : Type 0 where
  pub for_senders : g.sender.looks ≡ 0
  pub for_receivers : g.receiver.looks ≡ 0
  pub checks : g.checks ≡ false

-- a view has this name, with no open call on the queue, and knows what the seat has noted
pub record IsBetweenCalls {T : Type 0} (s : State (Option T) (QueueView T)) (n : ℕ) : Type 0 where
  pub id : ℕ
  pub view : QueueView T
  pub at : get_elem? s.views id ≡ some view
  pub named : In n view.names
  pub idle : view.phase ≡ Some (Alike Idle)
  pub notes : List Note
  pub known : view.noted ≡ Some notes

-- the seat's account, by its notes and marks
abbrev pub account_in : {T : Type 0} {s : State (Option T) (QueueView T)} {n : ℕ} → ℕ → IsBetweenCalls s n → Account
account_in {T} {s} {n} seats b = account_of seats b.notes (kinds_by n b.view.seen)

-- by that account it sleeps in this role, and nobody has woken it
abbrev pub IsAsleepAs : {T : Type 0} → QueueLimits → State (Option T) (QueueView T) → (n : ℕ) → Role → Account → Type 0
IsAsleepAs key s n role g = ((duty_as role g).stage ≡ Asleep) × (is_set role key.size s.words n ≡ true)

-- the seat has no open call on the queue, owes nothing, and is awake or sleeps in each role
pub record IsAtRest {T : Type 0} (key : QueueLimits) (s : State (Option T) (QueueView T)) (n : ℕ) : Type 0 where
  pub between : IsBetweenCalls s n
  pub owes : OwesNothing (account_in key.seats between)
  pub each : (role : Role) → ((duty_as role (account_in key.seats between)).stage ≡ Awake) ⊎ IsAsleepAs key s n role (account_in key.seats between)

abbrev pub AllSeatsRest : {T : Type 0} → QueueLimits → State (Option T) (QueueView T) → Type 0
AllSeatsRest key s = (n : ℕ) → n < key.seats → IsAtRest key s n

-- the seat sleeps in this role
pub record SleepsAs {T : Type 0} (key : QueueLimits) (s : State (Option T) (QueueView T)) (n : ℕ) (role : Role) : Type 0 where
  pub between : IsBetweenCalls s n
  pub asleep : IsAsleepAs key s n role (account_in key.seats between)

-- ---- seats

-- the account of a seat that has noted this
abbrev pub account_by : {T : Type 0} → ℕ → List Note → SeatInfo (Mark T) → Account
account_by {T} seats notes s = account_of seats notes (kinds_by s.name (reverse s.seen))

-- the number of the seat's own marks
abbrev pub marks_by : {T : Type 0} → SeatInfo (Mark T) → ℕ
marks_by {T} s = length (kinds_by s.name (reverse s.seen))
