use Rattle.fak_channel.specs.Standings.{IsSeatOf}
use Rattle.probe_allocations.proofs.Pops.{others, top}
use Rattle.probe_allocations.proofs.allocation_free.channel_steps.call_steps.Goals as goal

pub new-receiver-requires : goal.new-receiver-requires
new-receiver-requires g c = top (IsSeatOf c.in-Ok.channel) _ _ _ c.pop.ensures.items c.in-Ok.ensures.4 c.in-Some.seat c.in-Some.is

pub new-sender-requires : goal.new-sender-requires
new-sender-requires g c = top (IsSeatOf c.in-Ok.channel) _ _ _ c.pop-2.ensures.items (others (IsSeatOf c.in-Ok.channel) _ _ _ c.pop.ensures.items c.in-Ok.ensures.4) c.in-Some-pop.seat c.in-Some-pop.is
