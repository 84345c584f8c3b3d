-- From what an end's call did to what callers of a lender know of it.
use Rattle.std.specs.Prelude.{◌≡◌, Bool, Option, Some, None, Result, Ok, Err, IfOk, MatchResult}
use Rattle.std.proofs.Common.{refl, sym, ◌∙◌}
use Rattle.fak_channel.specs.declared.channel.Channel.{Channel}
use Rattle.fak_channel.specs.declared.fault.ReceiveFault.{ReceiveFault}
use Rattle.fak_channel.specs.declared.fault.SendFault.{SendFault}
use Rattle.fak_channel.specs.declared.fault.ChannelWorn.{ChannelWorn}
use Rattle.fak_channel.specs.declared.seat.ChannelSeat.{ChannelSeat}
use Rattle.fak_channel.specs.Channels.{ClosesAs, Receives, RefusesReceive, RefusesSend, RefusesTryReceive, RefusesTrySend, Sends, StaysAwake}
use Rattle.fak_channel.specs.Lending.{Call, SomeEndCloses, SomeEndReceives, SomeEndReceivesAtOnce, SomeEndRefusesReceive, SomeEndRefusesSend, SomeEndRefusesTryReceive, SomeEndRefusesTrySend, SomeEndSends, SomeEndSendsAtOnce}

-- weaker facts about both outcomes
outcomes : {A E : Type 0} (r : Result A E) {P P' : A → Type 0} {Q Q' : E → Type 0} → ((a : A) → P a → P' a) → ((e : E) → Q e → Q' e) → MatchResult r P Q → MatchResult r P' Q'
outcomes (Ok a) good bad h = good a h
outcomes (Err e) good bad h = bad e h

-- what a borrowed end did, some end did
module _ {T : Type 0} (channel : Channel T) (old new : ChannelSeat T) where
  abbrev by_end : Call T
  by_end = record { channel = channel; old = old; new = new }

  pub sent : (x : T) (r : Result (Unit {0}) (SendFault T)) → MatchResult r (λ _. Sends channel.queue.size x old new) (RefusesSend channel.queue.size x old new) → MatchResult r (λ _. SomeEndSends x) (SomeEndRefusesSend x)
  sent x r = outcomes r (λ _ does. (by_end, does)) (λ _ does. (by_end, does))

  pub sent_one : (x : T) → Sends channel.queue.size x old new → StaysAwake old.queue new.queue → SomeEndSendsAtOnce x
  sent_one x does awake = (by_end, does, awake)

  pub refused_try_send : (x : T) (fault : SendFault T) → RefusesTrySend channel.queue.size x old new fault → StaysAwake old.queue new.queue → SomeEndRefusesTrySend x fault
  refused_try_send x fault does awake = (by_end, does, awake)

  pub received : (r : Result T ReceiveFault) → MatchResult r (λ x. Receives channel.queue.size x old new) (RefusesReceive channel.queue.size old new) → MatchResult r SomeEndReceives (SomeEndRefusesReceive T)
  received r = outcomes r (λ _ does. (by_end, does)) (λ _ does. (by_end, does))

  pub received_one : (x : T) → Receives channel.queue.size x old new → StaysAwake old.queue new.queue → SomeEndReceivesAtOnce x
  received_one x does awake = (by_end, does, awake)

  pub refused_try_receive : (fault : ReceiveFault) → RefusesTryReceive channel.queue.size old new fault → StaysAwake old.queue new.queue → SomeEndRefusesTryReceive T fault
  refused_try_receive fault does awake = (by_end, does, awake)

  pub closed_by : (r : Result Bool ChannelWorn) → IfOk r (λ was_open. ClosesAs channel.queue.size was_open old new) → IfOk r (SomeEndCloses T)
  closed_by (Ok was_open) does = (by_end, does)
  closed_by (Err e) does = tt

-- what holds if there is an end still holds if one was taken off, since none is left of none
pub still : {A W : Type 0} (old now : Option A) → (old ≡ None → now ≡ None) → ((x : A) → old ≡ Some x → W) → (x : A) → now ≡ Some x → W
still None now none some x e = some x (sym (none refl) ∙ e)
still (Some y) now none some x e = some y refl
