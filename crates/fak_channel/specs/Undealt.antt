-- The seats of a channel as it is opened, and those that are still to be dealt.
use Rattle.std.specs.Prelude.{◌≡◌, ℕ, zero, suc, ◌+◌, ◌-◌, ◌<◌, ◌≤◌, List, [], ◌∷◌, Option, Some, None, pos}
use Rattle.fak_model.specs.Limits.{large_seats}
use Rattle.fak_queue.specs.SleeperSeats.{fresh_sleeper}
use Rattle.fak_channel.specs.declared.channel.Channel.{Channel}
use Rattle.fak_channel.specs.declared.seat.ChannelSeat.{ChannelSeat}
use Rattle.fak_channel.specs.declared.undealt.UndealtSeats.{UndealtSeats}
use Rattle.fak_channel.specs.Standings.{fresh_standing}

-- the values of f for this many names, from `name` on
abbrev pub dealt : {A : Type 0} → (ℕ → A) → ℕ → ℕ → List A
dealt f name zero = []
dealt f name (suc n) = f name ∷ dealt f (suc name) n

-- a seat as it is opened; and this many seats, named from `name` on
abbrev pub fresh_channel_seat : {T : Type 0} → Channel T → ℕ → ℕ → ChannelSeat T
fresh_channel_seat c stint name = record { queue = fresh_sleeper c.queue.object stint name; standing = fresh_standing }

abbrev pub fresh_channel_seats : {T : Type 0} → Channel T → ℕ → ℕ → ℕ → List (ChannelSeat T)
fresh_channel_seats c stint name n = dealt (fresh_channel_seat c stint) name n

-- what a channel has next to its queue
pub record IsFreshChannel {T : Type 0} (c : Channel T) : Type 0 where
  pub ends : c.ends ≡ c.queue.object.seats
  pub some : 0 < c.ends
  pub few : c.ends ≤ large_seats
  pub cells : c.size ≡ pos c.queue.size

-- this many seats, named from `name` on, are still to be dealt
pub record AreUndealt {T : Type 0} (c : Channel T) (stint name left : ℕ) (s : UndealtSeats T) : Type 0 where
  pub fresh : IsFreshChannel c
  pub queues : s.queues.rest.items ≡ dealt (fresh_sleeper c.queue.object stint) name left
  pub queues_left : s.queues.rest.len ≡ left

-- the next seat is that of this name, and the others are still to be dealt; or none is left
abbrev pub DealsNext : {T : Type 0} → Channel T → ℕ → ℕ → ℕ → UndealtSeats T → Option (ChannelSeat T) → Type 0
DealsNext c stint name left new None = left ≡ 0
DealsNext c stint name left new (Some seat) = (0 < left) × (seat ≡ fresh_channel_seat c stint name) × AreUndealt c stint (name + 1) (left - 1) new
