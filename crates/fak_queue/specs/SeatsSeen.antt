-- When the seats of a queue are at rest as ends of a channel, in the terms of what their callers see.
use Rattle.std.specs.Prelude.{◌≡◌, ◌⊎◌, ℕ, ◌<◌, true, reverse, Option, Some}
use mathlib.Core.Option.{some}
use lib.ListN.{get_elem?}
use Rattle.atomic_table.specs.Table.{State}
use Rattle.fak_model.specs.Seats.{In}
use Rattle.fak_core.specs.declared.queue.phase.Phase.TheVariants as phase
use Rattle.fak_channel_core.specs.SleeperSides.{Awake, Asleep}
use Rattle.fak_queue.specs.declared.limits.QueueLimits.{QueueLimits}
use Rattle.fak_queue.specs.declared.role.Role.{Role}
use Rattle.fak_queue.specs.declared.phases.Phases.TheVariants.{Alike}
use Rattle.fak_queue.specs.declared.state.SeatState.TheVariants.{Idle}
use Rattle.fak_queue.specs.Queues.{state_of}
use Rattle.fak_queue.specs.Shown.{QueueView}
use Rattle.fak_queue.specs.SleeperRest.{OwesNothing}
use Rattle.fak_queue.specs.SleeperSeats.{SleeperInfo, account_of_seat}
use Rattle.fak_queue.specs.Sleepers.{duty_as, is_set}

-- a view of the table has this seat, and knows just what callers see of it
pub record IsSeenIn {T : Type 0} (key : QueueLimits) (s : State (Option T) (QueueView T)) (seat : SleeperInfo T) : Type 0 where
  pub id : ℕ
  pub view : QueueView T
  pub at : get_elem? s.views id ≡ some view
  pub named : In seat.seat.name view.names
  pub seen : seat.seat.seen ≡ reverse view.seen
  pub noted : view.noted ≡ Some seat.notes
  pub idle : state_of seat.seat ≡ Idle → view.phase ≡ Some (Alike phase.Idle)
  pub seats : seat.seat.object.seats ≡ key.seats

-- the seat sleeps in this role, and nobody has woken it
abbrev pub SeatSleeps : {T : Type 0} → QueueLimits → State (Option T) (QueueView T) → Role → SleeperInfo T → Type 0
SeatSleeps key s role seat = ((duty_as role (account_of_seat seat)).stage ≡ Asleep) × (is_set role key.size s.words seat.seat.name ≡ true)

-- the seat is idle, owes nothing, and is awake or sleeps in each role
pub record SeatRests {T : Type 0} (key : QueueLimits) (s : State (Option T) (QueueView T)) (seat : SleeperInfo T) : Type 0 where
  pub seen : IsSeenIn key s seat
  pub idle : state_of seat.seat ≡ Idle
  pub owes : OwesNothing (account_of_seat seat)
  pub each : (role : Role) → ((duty_as role (account_of_seat seat)).stage ≡ Awake) ⊎ SeatSleeps key s role seat

-- these are the seats of the queue, by their numbers, and all rest
abbrev pub AllRest : {T : Type 0} → QueueLimits → State (Option T) (QueueView T) → (ℕ → SleeperInfo T) → Type 0
AllRest key s seats = (n : ℕ) → n < key.seats → ((seats n).seat.name ≡ n) × SeatRests key s (seats n)
