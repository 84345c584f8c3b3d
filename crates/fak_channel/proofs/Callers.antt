-- How the steps of a call make the whole call.
use Rattle.std.proofs.Common.{ℕ, Bool, true, false}
use Rattle.fak_channel.specs.declared.fault.ReceiveFault.TheVariants as receiving
use Rattle.fak_channel.specs.declared.fault.SendFault.TheVariants as sending
use Rattle.fak_channel.specs.declared.seat.ChannelSeat.{ChannelSeat}
use Rattle.fak_channel.specs.declared.standing.Outcome.{Outcome}
use Rattle.fak_channel.specs.declared.standing.Wish.TheVariants.{Send, Receive}
use Rattle.fak_channel.specs.Channels.{RefusesSendUntil, RefusesReceiveUntil, RefusesTrySend, RefusesTryReceive}
use Rattle.fak_channel.specs.ChannelSteps.{Asked, Sending, Receiving, BeginsAs, EndsAs, EndsAll, RefusesAll, WakesNone}

module _ {T : Type 0} (size : ℕ) (old mid new : ChannelSeat T) where
  -- what was asked ended so
  pub ended_as : (is_try : Bool) (asked : Asked T) (o : Outcome T) → BeginsAs size is_try asked old mid → EndsAll size mid new o → EndsAs size asked o old new
  ended_as is_try asked o begins all = all asked old begins.call

  -- a call that timed out
  pub timed_out_send : (x y : T) → BeginsAs size false (Sending x) old mid → WakesNone size mid new (Send y) → RefusesSendUntil size x old new (sending.TimedOut y)
  timed_out_send x y begins none = (let h = none (Sending x) old begins.call in (h.0.0, record { full = h.0.1; slept = h.1 }))

  pub timed_out_receive : BeginsAs size false Receiving old mid → WakesNone size mid new Receive → RefusesReceiveUntil size old new receiving.TimedOut
  timed_out_receive begins none = (let h = none Receiving old begins.call in record { empty = h.0; slept = h.1 })

  -- a try that found no room, or no item
  pub full_try : (x y : T) → BeginsAs size true (Sending x) old mid → RefusesAll size mid new (Send y) → RefusesTrySend size x old new (sending.Full y)
  full_try x y begins all = all (Sending x) old begins.call

  pub empty_try : BeginsAs size true Receiving old mid → RefusesAll size mid new Receive → RefusesTryReceive size old new receiving.Empty
  empty_try begins all = all Receiving old begins.call

  -- what was not asked does not come
  pub no_item_for_send : (is_try : Bool) (x : T) → BeginsAs size is_try (Sending x) old mid → RefusesAll size mid new Receive → ⊥
  no_item_for_send is_try x begins all = (all (Sending x) old begins.call).0

  pub no_room_for_receive : (is_try : Bool) (y : T) → BeginsAs size is_try Receiving old mid → RefusesAll size mid new (Send y) → ⊥
  no_room_for_receive is_try y begins all = all Receiving old begins.call

  pub no_item_for_late_send : (is_try : Bool) (x : T) → BeginsAs size is_try (Sending x) old mid → WakesNone size mid new Receive → ⊥
  no_item_for_late_send is_try x begins none = (none (Sending x) old begins.call).0

  pub no_room_for_late_receive : (is_try : Bool) (y : T) → BeginsAs size is_try Receiving old mid → WakesNone size mid new (Send y) → ⊥
  no_room_for_late_receive is_try y begins none = (none Receiving old begins.call).0
