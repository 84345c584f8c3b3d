use Rattle.fak_channel.specs.Standings.{IsSeatOf}
use Rattle.probe_allocations.proofs.Pops.{others, top}
use Rattle.probe_allocations.proofs.allocation_free.lenders.call_lender.Goals as goal

pub new-requires-2 : goal.new-requires-2
new-requires-2 g c = top (IsSeatOf c.in-Ok.channel) _ _ _ c.pop-2.ensures.items (others (IsSeatOf c.in-Ok.channel) _ _ _ c.pop.ensures.items c.in-Ok.ensures.4) c.in-Some-pop.seat c.in-Some-pop.is
