use Rattle.fak_channel.specs.Standings.{IsSeatOf}
use Rattle.probe_allocations.proofs.Pops.{top}
use Rattle.probe_allocations.proofs.allocation_free.channel_ends.time_out.Goals as goal

pub new-only-requires : goal.new-only-requires
new-only-requires g c = top (IsSeatOf c.in-Ok.channel) _ _ _ c.pop.ensures.items c.in-Ok.ensures.4 c.in-Some.seat c.in-Some.is
