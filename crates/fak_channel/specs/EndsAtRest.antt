-- When an end of a channel rests: what its standing says of its account, and all ends at rest in the table of a running channel.
use Rattle.std.specs.Prelude.{◌≡◌, ◌⊎◌, ℕ, ◌<◌, true, Option}
use Rattle.atomic_table.specs.Table.{State}
use Rattle.fak_channel_core.specs.SleeperSides.{SleepStage}
use Rattle.fak_queue.specs.declared.limits.QueueLimits.{QueueLimits}
use Rattle.fak_queue.specs.declared.state.SeatState.TheVariants as at
use Rattle.fak_queue.specs.Queues.{state_of}
use Rattle.fak_queue.specs.SeatsSeen.{IsSeenIn}
use Rattle.fak_queue.specs.Shown.{QueueView}
use Rattle.fak_queue.specs.SleeperRest.{OwesNothing}
use Rattle.fak_queue.specs.SleeperSeats.{account_of_seat}
use Rattle.fak_queue.specs.Sleepers.{is_set}
use Rattle.fak_channel.specs.declared.channel.Channel.{Channel}
use Rattle.fak_channel.specs.declared.seat.ChannelSeat.{ChannelSeat}
use Rattle.fak_channel.specs.declared.standing.Next.TheVariants.{Sleeping}
use Rattle.fak_channel.specs.declared.standing.Wish.{Wish}
use Rattle.fak_channel.specs.Standings.{IsStepSeatOf, IsBetweenCalls, StageFor, role_of}

-- the end has no open call on the queue, owes no look and no check, and is at this stage in the role of its wish
pub record RestsAs {T : Type 0} (w : Wish T) (stage : SleepStage) (e : ChannelSeat T) : Type 0 where
  pub idle : state_of e.queue.seat ≡ at.Idle
  pub owes : OwesNothing (account_of_seat e.queue)
  pub stages : StageFor w stage (account_of_seat e.queue)

-- its call sleeps, and no other end has cleared its bit
pub record EndSleeps {T : Type 0} (key : QueueLimits) (s : State (Option T) (QueueView T)) (e : ChannelSeat T) : Type 0 where
  pub wish : Wish T
  pub next : e.standing.next ≡ Sleeping wish
  pub bit : is_set (role_of wish) key.size s.words e.queue.seat.name ≡ true

-- end n of the channel is between two calls, or sleeps
pub record EndRests {T : Type 0} (c : Channel T) (key : QueueLimits) (s : State (Option T) (QueueView T)) (n : ℕ) (e : ChannelSeat T) : Type 0 where
  pub stands : IsStepSeatOf c e
  pub name : e.queue.seat.name ≡ n
  pub seen : IsSeenIn key s e.queue
  pub waits : IsBetweenCalls e ⊎ EndSleeps key s e

-- all ends do
abbrev pub AllEndsRest : {T : Type 0} → Channel T → QueueLimits → State (Option T) (QueueView T) → (ℕ → ChannelSeat T) → Type 0
AllEndsRest c key s ends = (n : ℕ) → n < key.seats → EndRests c key s n (ends n)
