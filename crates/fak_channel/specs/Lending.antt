-- What calls by a borrowed end do. It is not known which end it is and what it has seen: some end performed the call.
use Rattle.std.specs.Prelude.{◌≡◌, ◌≢◌, Bool, Box, Option, Some, None}
use Rattle.std.specs.declared.alloc.Global.{Global}
use Rattle.fak_channel.specs.declared.channel.Channel.{Channel}
use Rattle.fak_channel.specs.declared.seat.ChannelSeat.{ChannelSeat}
use Rattle.fak_channel.specs.declared.end.End.{End}
use Rattle.fak_channel.specs.declared.shelves.Loan.{Loan}
use Rattle.fak_channel.specs.declared.shelves.Shelf.{Shelf, out-Shelf}
use Rattle.fak_channel.specs.declared.fault.SendFault.{SendFault}
use Rattle.fak_channel.specs.declared.fault.ReceiveFault.{ReceiveFault}
use Rattle.fak_channel.specs.declared.lender_fault.LenderSendFault.{LenderSendFault}
use Rattle.fak_channel.specs.declared.lender_fault.LenderSendFault.TheVariants as sending
use Rattle.fak_channel.specs.declared.lender_fault.LenderReceiveFault.{LenderReceiveFault}
use Rattle.fak_channel.specs.declared.lender_fault.LenderReceiveFault.TheVariants as receiving
use Rattle.fak_channel.specs.Channels.{Sends, RefusesSend, RefusesTrySend, Receives, RefusesReceive, RefusesTryReceive, ClosesAs, StaysAwake}

-- a seat before and after a call of an end of some channel
pub record Call (T : Type 0) : Type 0 where
  pub channel : Channel T
  pub old : ChannelSeat T
  pub new : ChannelSeat T

abbrev pub SomeEndSends : {T : Type 0} → T → Type 0
SomeEndSends {T} x = (c : Call T) × Sends c.channel.queue.size x c.old c.new

abbrev pub SomeEndRefusesSend : {T : Type 0} → T → SendFault T → Type 0
SomeEndRefusesSend {T} x fault = (c : Call T) × RefusesSend c.channel.queue.size x c.old c.new fault

-- the same by a try, which does not sleep
abbrev pub SomeEndSendsAtOnce : {T : Type 0} → T → Type 0
SomeEndSendsAtOnce {T} x = (c : Call T) × Sends c.channel.queue.size x c.old c.new × StaysAwake c.old.queue c.new.queue

abbrev pub SomeEndRefusesTrySend : {T : Type 0} → T → SendFault T → Type 0
SomeEndRefusesTrySend {T} x fault = (c : Call T) × RefusesTrySend c.channel.queue.size x c.old c.new fault × StaysAwake c.old.queue c.new.queue

-- all ends were lent, and the item comes back; or some end refused it
abbrev pub BusyOrRefusesSend : {T : Type 0} → T → LenderSendFault T → Type 0
BusyOrRefusesSend x (sending.Busy y) = y ≡ x
BusyOrRefusesSend x (sending.Refused fault) = SomeEndRefusesTrySend x fault

abbrev pub SomeEndReceives : {T : Type 0} → T → Type 0
SomeEndReceives {T} x = (c : Call T) × Receives c.channel.queue.size x c.old c.new

abbrev pub SomeEndRefusesReceive : (T : Type 0) → ReceiveFault → Type 0
SomeEndRefusesReceive T fault = (c : Call T) × RefusesReceive c.channel.queue.size c.old c.new fault

abbrev pub SomeEndReceivesAtOnce : {T : Type 0} → T → Type 0
SomeEndReceivesAtOnce {T} x = (c : Call T) × Receives c.channel.queue.size x c.old c.new × StaysAwake c.old.queue c.new.queue

abbrev pub SomeEndRefusesTryReceive : (T : Type 0) → ReceiveFault → Type 0
SomeEndRefusesTryReceive T fault = (c : Call T) × RefusesTryReceive c.channel.queue.size c.old c.new fault × StaysAwake c.old.queue c.new.queue

-- all ends were lent; or some end received nothing
abbrev pub BusyOrRefusesReceive : (T : Type 0) → LenderReceiveFault → Type 0
BusyOrRefusesReceive T receiving.Busy = Unit {0}
BusyOrRefusesReceive T (receiving.Refused fault) = SomeEndRefusesTryReceive T fault

abbrev pub SomeEndCloses : (T : Type 0) → Bool → Type 0
SomeEndCloses T was_open = (c : Call T) × ClosesAs c.channel.queue.size was_open c.old c.new

-- a shelf in its box
abbrev pub BoxedShelf : Type 0 → Type 0
BoxedShelf T = Box (Shelf T) Global

-- the end that is lent
abbrev pub end_of : {T : Type 0} → Loan T → End T
end_of {T} loan = (out-Shelf T loan.shelf.value).end

-- the top shelf was taken off with its end, if there was one; those below it stay
abbrev pub TakesTop : {T : Type 0} → Option (BoxedShelf T) → Option (BoxedShelf T) → Option (Loan T) → Type 0
TakesTop None new taken = (new ≡ None) × (taken ≡ None)
TakesTop (Some top) new None = ⊥
TakesTop {T} (Some top) new (Some taken) = (end_of taken ≡ (out-Shelf T top.value).end) × (new ≡ (out-Shelf T top.value).below)

-- the end that was lent was put on top, and the shelves below it stay
abbrev pub PutsOnTop : {T : Type 0} → Loan T → Option (BoxedShelf T) → Option (BoxedShelf T) → Type 0
PutsOnTop put old None = ⊥
PutsOnTop {T} put old (Some top) = ((out-Shelf T top.value).end ≡ end_of put) × ((out-Shelf T top.value).below ≡ old)

-- an end was taken off these shelves, if there was one
abbrev pub IsTaken : {A B : Type 0} → Option A → Option B → Type 0
IsTaken None taken = taken ≡ None
IsTaken (Some shelf) taken = taken ≢ None
