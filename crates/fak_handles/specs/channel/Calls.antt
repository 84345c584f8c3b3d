-- Ends of channels: what is asked of the library, and what the exported functions return.
use Rattle.std.specs.Prelude.{◌≡◌, ◌↔◌, ◌+◌, ℕ, ℤ, pos, Bool, false, IsTrue, Option, Some, None, Result, Ok, Err, MatchOption, MatchResult}
use Rattle.std.specs.Arc.{arc_value}
use Rattle.fak_model.specs.declared.queue.Kind.TheVariants.{Close}
use Rattle.fak_model.specs.Queue.{Has}
use Rattle.fak_queue.specs.Queues.{drawn_by}
use Rattle.fak_channel.specs.Channels.{IsLength, OnlyLooks, RefusesReceive, RefusesSend}
use Rattle.fak_channel.specs.Moves.{GivesUpAt}
use Rattle.fak_channel.specs.ChannelSteps.{Sending, Receiving, Closing, BeginsAs, BeginsAfterLook, GivesUp, RefusesBeginTryReceive, RefusesBeginTrySend, Runs, StandsAfter, Steps}
use Rattle.fak_channel.specs.Standings.{IsAsleep, IsBetweenCalls, IsInCall, call_state}
use Rattle.fak_channel.specs.declared.fault.ChannelWorn.{ChannelWorn}
use Rattle.fak_channel.specs.declared.fault.ReceiveFault.{ReceiveFault}
use Rattle.fak_channel.specs.declared.fault.ReceiveFault.TheVariants as receiving
use Rattle.fak_channel.specs.declared.fault.SendFault.{SendFault}
use Rattle.fak_channel.specs.declared.fault.SendFault.TheVariants as sending
use Rattle.fak_channel.specs.declared.standing.ChannelState.{ChannelState}
use Rattle.fak_channel.specs.declared.standing.ChannelState.TheVariants as state
use Rattle.fak_channel.specs.declared.standing.ChannelStep.{ChannelStep}
use Rattle.fak_channel.specs.declared.standing.ChannelStep.TheVariants.{GoesOn, NotYet, Sleeps, Wakes, Ends}
use Rattle.fak_channel.specs.declared.standing.Outcome.TheVariants.{Sent, Refused, Received, Drained, Worn, Closed, WasClosed}
use Rattle.fak_channel.specs.declared.standing.Wish.{Wish}
use Rattle.fak_channel.specs.declared.standing.Wish.TheVariants.{Send}
use Rattle.fak_handles.specs.declared.channel.seat.ChannelDesk.{ChannelDesk}
use Rattle.fak_handles.specs.declared.channel.seat.Item.{Item}

abbrev pub SameChannel : ChannelDesk → ChannelDesk → Type 0
SameChannel d e = arc_value e.channel ≡ arc_value d.channel

abbrev pub size_at : ChannelDesk → ℕ
size_at d = (arc_value d.channel).queue.size

-- ---- what is asked of the channel

-- a call is open, or none is, or none that sleeps
abbrev pub HasOpenCall : ChannelDesk → ChannelDesk → Type 0
HasOpenCall d e = IsInCall d.seat × (e ≡ d)

abbrev pub HasNoCall : ChannelDesk → ChannelDesk → Type 0
HasNoCall d e = (IsInCall d.seat → ⊥) × (e ≡ d)

abbrev pub IsNotAsleep : ChannelDesk → ChannelDesk → Type 0
IsNotAsleep d e = (IsAsleep d.seat → ⊥) × (e ≡ d)

pub record AsksToSend (item : Item) (answer : Result (Unit {0}) (SendFault Item)) (d e : ChannelDesk) : Type 0 where
  pub idle : IsBetweenCalls d.seat
  pub call : MatchResult answer (λ _. BeginsAs (size_at d) false (Sending item) d.seat e.seat)
      (λ fault. RefusesSend (size_at d) item d.seat e.seat fault × IsBetweenCalls e.seat)

pub record AsksToTrySend (item : Item) (answer : Result (Unit {0}) (SendFault Item)) (d e : ChannelDesk) : Type 0 where
  pub idle : IsBetweenCalls d.seat
  pub call : MatchResult answer (λ _. BeginsAfterLook (size_at d) (Sending item) d.seat e.seat)
      (λ fault. RefusesBeginTrySend (size_at d) item d.seat e.seat fault × IsBetweenCalls e.seat)

pub record AsksToReceive (answer : Result (Unit {0}) ReceiveFault) (d e : ChannelDesk) : Type 0 where
  pub idle : IsBetweenCalls d.seat
  pub call : MatchResult answer (λ _. BeginsAs (size_at d) false Receiving d.seat e.seat)
      (λ fault. RefusesReceive (size_at d) d.seat e.seat fault × IsBetweenCalls e.seat)

pub record AsksToTryReceive (answer : Result (Unit {0}) ReceiveFault) (d e : ChannelDesk) : Type 0 where
  pub idle : IsBetweenCalls d.seat
  pub call : MatchResult answer (λ _. BeginsAfterLook (size_at d) Receiving d.seat e.seat)
      (λ fault. RefusesBeginTryReceive (size_at d) d.seat e.seat fault × IsBetweenCalls e.seat)

pub record AsksToClose (answer : Result (Unit {0}) ChannelWorn) (d e : ChannelDesk) : Type 0 where
  pub idle : IsBetweenCalls d.seat
  pub call : MatchResult answer (λ _. BeginsAs (size_at d) false Closing d.seat e.seat) (λ _. ⊥)

pub record AsksToStep (answer : ChannelStep Item) (d e : ChannelDesk) : Type 0 where
  pub in_call : IsInCall d.seat
  pub after : StandsAfter e.seat answer
  pub call : Steps (size_at d) d.seat e.seat answer
  pub runs : Runs (arc_value d.channel) d.seat e.seat answer

pub record AsksToGiveUp (answer : Option (Wish Item)) (d e : ChannelDesk) : Type 0 where
  pub asleep : IsAsleep d.seat
  pub after : MatchOption answer (IsInCall e.seat) (λ _. IsBetweenCalls e.seat)
  pub moves : GivesUpAt (arc_value d.channel) d.seat e.seat d.seat.standing.next answer
  pub call : GivesUp (size_at d) d.seat e.seat answer

-- ---- the results as codes: 11 wakes, 13 sleeps, 14 gave up

abbrev pub begin_send_code : Option (Result (Unit {0}) (SendFault Item)) → ℤ
begin_send_code None = pos 7
begin_send_code (Some (Ok u)) = pos 0
begin_send_code (Some (Err (sending.Worn x))) = pos 5
begin_send_code (Some (Err (sending.Closed x))) = pos 4
begin_send_code (Some (Err (sending.Full x))) = pos 2
begin_send_code (Some (Err (sending.TimedOut x))) = pos 14

abbrev pub begin_receive_code : Option (Result (Unit {0}) ReceiveFault) → ℤ
begin_receive_code None = pos 7
begin_receive_code (Some (Ok u)) = pos 0
begin_receive_code (Some (Err receiving.Worn)) = pos 5
begin_receive_code (Some (Err receiving.Closed)) = pos 4
begin_receive_code (Some (Err receiving.Empty)) = pos 3
begin_receive_code (Some (Err receiving.TimedOut)) = pos 14

abbrev pub begin_close_code : Option (Result (Unit {0}) ChannelWorn) → ℤ
begin_close_code None = pos 7
begin_close_code (Some (Ok u)) = pos 0
begin_close_code (Some (Err w)) = pos 5

abbrev pub step_code : Option (ChannelStep Item) → ℤ
step_code None = pos 7
step_code (Some GoesOn) = pos 1
step_code (Some NotYet) = pos 1
step_code (Some Sleeps) = pos 13
step_code (Some (Wakes number)) = pos 11
step_code (Some (Ends Sent)) = pos 0
step_code (Some (Ends (Refused x))) = pos 4
step_code (Some (Ends (Received x))) = pos 0
step_code (Some (Ends Drained)) = pos 4
step_code (Some (Ends Worn)) = pos 5
step_code (Some (Ends Closed)) = pos 0
step_code (Some (Ends WasClosed)) = pos 4

-- the item that comes out, or back
abbrev pub stepped_or : Item → Option (ChannelStep Item) → Item
stepped_or y (Some (Ends (Refused x))) = x
stepped_or y (Some (Ends (Received x))) = x
stepped_or y _ = y

abbrev pub roused_or : ℕ → Option (ChannelStep Item) → ℕ
roused_or n (Some (Wakes number)) = number
roused_or n _ = n

abbrev pub give_up_code : Option (Option (Wish Item)) → ℤ
give_up_code None = pos 7
give_up_code (Some None) = pos 1
give_up_code (Some (Some w)) = pos 14

abbrev pub given_up_or : Item → Option (Option (Wish Item)) → Item
given_up_or y (Some (Some (Send x))) = x
given_up_or y _ = y

abbrev pub channel_state_code : ChannelState → ℕ
channel_state_code state.Idle = 0
channel_state_code state.Open = 1
channel_state_code state.Sleeping = 2

-- ---- the exported functions

pub record BeginsSend (code : ℤ) (item : Item) (d e : ChannelDesk) : Type 0 where
  pub answer : Option (Result (Unit {0}) (SendFault Item))
  pub code_is : code ≡ begin_send_code answer
  pub call : MatchOption answer (HasOpenCall d e) (λ r. AsksToSend item r d e)

pub record BeginsTrySend (code : ℤ) (item : Item) (d e : ChannelDesk) : Type 0 where
  pub answer : Option (Result (Unit {0}) (SendFault Item))
  pub code_is : code ≡ begin_send_code answer
  pub call : MatchOption answer (HasOpenCall d e) (λ r. AsksToTrySend item r d e)

pub record BeginsReceive (code : ℤ) (d e : ChannelDesk) : Type 0 where
  pub answer : Option (Result (Unit {0}) ReceiveFault)
  pub code_is : code ≡ begin_receive_code answer
  pub call : MatchOption answer (HasOpenCall d e) (λ r. AsksToReceive r d e)

pub record BeginsTryReceive (code : ℤ) (d e : ChannelDesk) : Type 0 where
  pub answer : Option (Result (Unit {0}) ReceiveFault)
  pub code_is : code ≡ begin_receive_code answer
  pub call : MatchOption answer (HasOpenCall d e) (λ r. AsksToTryReceive r d e)

pub record BeginsClose (code : ℤ) (d e : ChannelDesk) : Type 0 where
  pub answer : Option (Result (Unit {0}) ChannelWorn)
  pub code_is : code ≡ begin_close_code answer
  pub call : MatchOption answer (HasOpenCall d e) (λ r. AsksToClose r d e)

pub record StepsOn (code : ℤ) (item item' : Item) (number number' : ℕ) (d e : ChannelDesk) : Type 0 where
  pub answer : Option (ChannelStep Item)
  pub code_is : code ≡ step_code answer
  pub item_is : item' ≡ stepped_or item answer
  pub number_is : number' ≡ roused_or number answer
  pub call : MatchOption answer (HasNoCall d e) (λ s. AsksToStep s d e)

pub record GivesUpCall (code : ℤ) (item item' : Item) (d e : ChannelDesk) : Type 0 where
  pub answer : Option (Option (Wish Item))
  pub code_is : code ≡ give_up_code answer
  pub item_is : item' ≡ given_up_or item answer
  pub call : MatchOption answer (IsNotAsleep d e) (λ w. AsksToGiveUp w d e)

pub record CountsItems (code : ℤ) (items : ℕ) (d e : ChannelDesk) : Type 0 where
  pub code_is : code ≡ pos 0
  pub looks : OnlyLooks (size_at d) d.seat e.seat
  pub count : IsLength items e.seat

pub record TellsClosed (code : ℤ) (is_closed : Bool) (d e : ChannelDesk) : Type 0 where
  pub code_is : code ≡ pos 0
  pub looks : OnlyLooks (size_at d) d.seat e.seat
  pub closed : IsTrue is_closed ↔ Has Close e.seat.queue.seat.seen

pub record LooksAtEnd (code : ℤ) (number state left : ℕ) (d e : ChannelDesk) : Type 0 where
  pub code_is : code ≡ pos 0
  pub same : e ≡ d
  pub number_is : number ≡ d.seat.queue.seat.name
  pub state_is : state ≡ channel_state_code (call_state d.seat.standing.next)
  pub left_is : left + drawn_by d.seat.queue.seat ≡ d.seat.queue.seat.stint
