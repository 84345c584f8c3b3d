-- Whether a seat belongs to a channel is a fact with at most one proof.
use Rattle.std.proofs.Common.{◌≡◌, ℕ, List, Option, Some, None, Bool, true, false, refl, IfSome, ◌<◌}
use Rattle.std.proofs.Math.Bool.{Bool-set}
use Rattle.std.proofs.Math.IntN.{ℤ_set}
use Rattle.std.proofs.Math.Nat.{ℕ_set}
use Rattle.std.specs.Coded.{Coded-set, le_prop, code_by, coded_ℕ, coded_bool, coded_list, coded_option, coded×}
use Rattle.fak_model.specs.Limits.{large_seats}
use Rattle.fak_channel_core.specs.SleeperSides.{SleepStage, Awake, Registered, PastLower, Asleep, Woken, Duty}
use Rattle.fak_channel_core.specs.SleeperMoves.{Account}
use Rattle.fak_queue.specs.SleeperSeats.{SleeperInfo, account_of_seat}
use Rattle.fak_queue.specs.declared.state.SeatState.{SeatState}
use Rattle.fak_queue.specs.declared.state.SeatState.TheVariants as at
use Rattle.fak_channel.specs.declared.channel.Channel.{Channel}
use Rattle.fak_channel.specs.declared.seat.ChannelSeat.{ChannelSeat}
use Rattle.fak_channel.specs.declared.standing.CallStanding.{CallStanding}
use Rattle.fak_channel.specs.declared.standing.ChannelState.{ChannelState}
use Rattle.fak_channel.specs.declared.standing.ChannelState.TheVariants as state
use Rattle.fak_channel.specs.declared.standing.Looks.{Looks}
use Rattle.fak_channel.specs.declared.standing.Next.{Next}
use Rattle.fak_channel.specs.declared.standing.Next.TheVariants.{Idle, Claiming, Inserting, Deleting, Checking, Registering, Testing, TestingDrained, TakingBack, Sleeping, Refusing, Refused, Shutting, Ending}
use Rattle.fak_channel.specs.declared.standing.Wish.TheVariants.{Send, Receive}
use Rattle.fak_channel.specs.Looks.{Covers}
use Rattle.fak_channel.specs.Standings.{IsStepSeatOf, IsSeatOf, StandsSo, Pays}

-- ---- codes of small types

to_seat : SeatState → Option (Bool × ℕ)
to_seat at.Idle = None
to_seat (at.Inserting k) = Some (true, k)
to_seat (at.Deleting k) = Some (false, k)

from_seat : Option (Bool × ℕ) → SeatState
from_seat None = at.Idle
from_seat (Some (true, k)) = at.Inserting k
from_seat (Some (false, k)) = at.Deleting k

seat_back : (s : SeatState) → from_seat (to_seat s) ≡ s
unfolding from_seat to_seat
seat_back at.Idle = refl
seat_back (at.Inserting k) = refl
seat_back (at.Deleting k) = refl

seat_set : IsSet SeatState
seat_set = Coded-set (code_by (Option (Bool × ℕ)) (coded_option (coded× coded_bool coded_ℕ)) to_seat from_seat seat_back)

to_stage : SleepStage → Option (Bool × Bool)
to_stage Awake = None
to_stage Registered = Some (true, true)
to_stage PastLower = Some (true, false)
to_stage Asleep = Some (false, true)
to_stage Woken = Some (false, false)

from_stage : Option (Bool × Bool) → SleepStage
from_stage None = Awake
from_stage (Some (true, true)) = Registered
from_stage (Some (true, false)) = PastLower
from_stage (Some (false, true)) = Asleep
from_stage (Some (false, false)) = Woken

stage_back : (s : SleepStage) → from_stage (to_stage s) ≡ s
unfolding from_stage to_stage
stage_back Awake = refl
stage_back Registered = refl
stage_back PastLower = refl
stage_back Asleep = refl
stage_back Woken = refl

stage_set : IsSet SleepStage
stage_set = Coded-set (code_by (Option (Bool × Bool)) (coded_option (coded× coded_bool coded_bool)) to_stage from_stage stage_back)

to_state : ChannelState → Option Bool
to_state state.Idle = None
to_state state.Open = Some true
to_state state.Sleeping = Some false

from_state : Option Bool → ChannelState
from_state None = state.Idle
from_state (Some true) = state.Open
from_state (Some false) = state.Sleeping

state_back : (s : ChannelState) → from_state (to_state s) ≡ s
unfolding from_state to_state
state_back state.Idle = refl
state_back state.Open = refl
state_back state.Sleeping = refl

state_set : IsSet ChannelState
state_set = Coded-set (code_by (Option Bool) (coded_option coded_bool) to_state from_state state_back)

list_set : IsSet (List ℕ)
list_set = Coded-set (coded_list coded_ℕ)

-- ---- the state of a seat

found_prop : (found : Option ℕ) → IsProp (IfSome found (λ k. k < large_seats))
found_prop None = hlevel (le_prop)
found_prop (Some k) = hlevel (le_prop)

covers_prop : (ends : ℕ) (l : Looks) (d : Duty) → IsProp (Covers ends l d)
covers_prop ends l d = hlevel (found_prop l.found, Bool-set, ℕ_set, le_prop)

pays_prop : {T : Type 0} (ends : ℕ) (s : CallStanding T) (g : Account) → IsProp (Pays ends s g)
pays_prop ends s g = hlevel (covers_prop ends s.senders g.sender, covers_prop ends s.receivers g.receiver)

stands_so_prop : {T : Type 0} (next : Next T) (s : CallStanding T) (q : SleeperInfo T) (g : Account) → IsProp (StandsSo next s q g)
stands_so_prop Idle s q g = hlevel (seat_set, stage_set, Bool-set, le_prop)
stands_so_prop (Claiming (Send x)) s q g = hlevel (seat_set, stage_set, Bool-set, le_prop)
stands_so_prop (Claiming Receive) s q g = hlevel (seat_set, stage_set, Bool-set, le_prop)
stands_so_prop Inserting s q g = hlevel (seat_set, stage_set, Bool-set, le_prop)
stands_so_prop Deleting s q g = hlevel (seat_set, stage_set, Bool-set, le_prop)
stands_so_prop Checking s q g = hlevel (seat_set, stage_set, Bool-set, le_prop)
stands_so_prop (Registering w) s q g = hlevel (seat_set, stage_set, Bool-set, le_prop)
stands_so_prop (Testing (Send x)) s q g = hlevel (seat_set, stage_set, Bool-set, le_prop)
stands_so_prop (Testing Receive) s q g = hlevel (seat_set, stage_set, Bool-set, le_prop)
stands_so_prop TestingDrained s q g = hlevel (seat_set, stage_set, Bool-set, le_prop)
stands_so_prop (TakingBack (Send x)) s q g = hlevel (seat_set, stage_set, Bool-set, le_prop)
stands_so_prop (TakingBack Receive) s q g = hlevel (seat_set, stage_set, Bool-set, le_prop)
stands_so_prop (Sleeping (Send x)) s q g = hlevel (seat_set, stage_set, Bool-set, le_prop)
stands_so_prop (Sleeping Receive) s q g = hlevel (seat_set, stage_set, Bool-set, le_prop)
stands_so_prop (Refusing w) s q g = hlevel (seat_set, stage_set, Bool-set, le_prop)
stands_so_prop (Refused w) s q g = hlevel (seat_set, stage_set, Bool-set, le_prop)
stands_so_prop Shutting s q g = hlevel (seat_set, stage_set, Bool-set, le_prop)
stands_so_prop (Ending o) s q g = hlevel (seat_set, stage_set, Bool-set, le_prop)

pub stands_prop : {T : Type 0} (c : Channel T) (s : ChannelSeat T) → IsProp (IsStepSeatOf c s)
stands_prop c s = hlevel (stands_so_prop s.standing.next s.standing s.queue (account_of_seat s.queue), pays_prop c.ends s.standing (account_of_seat s.queue), ℤ_set, ℕ_set, list_set, le_prop)

pub seat_of_prop : {T : Type 0} (c : Channel T) (s : ChannelSeat T) → IsProp (IsSeatOf c s)
seat_of_prop c s = hlevel (stands_prop c s, state_set)
