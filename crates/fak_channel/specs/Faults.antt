-- What a refusal of a send gives back.
use Rattle.fak_channel.specs.declared.fault.SendFault.{SendFault}
use Rattle.fak_channel.specs.declared.lender_fault.LenderSendFault.{LenderSendFault}
use Rattle.fak_channel.specs.declared.lender_fault.LenderSendFault.TheVariants as lender
use Rattle.fak_channel.specs.declared.fault.SendFault.TheVariants.{Worn, Closed, Full, TimedOut}

-- the item that was not sent
abbrev pub item_in : {T : Type 0} → SendFault T → T
item_in (Worn x) = x
item_in (Closed x) = x
item_in (Full x) = x
item_in (TimedOut x) = x

-- the same of a lender's try
abbrev pub lender_item_in : {T : Type 0} → LenderSendFault T → T
lender_item_in (lender.Busy x) = x
lender_item_in (lender.Refused fault) = item_in fault
