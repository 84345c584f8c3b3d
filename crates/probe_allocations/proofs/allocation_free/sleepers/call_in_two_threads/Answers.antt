use Rattle.fak_channel.specs.Standings.{IsSeatOf}
use Rattle.probe_allocations.proofs.Pops.{others, top}
use Rattle.probe_allocations.proofs.allocation_free.sleepers.call_in_two_threads.Goals as goal

pub new-first_there-requires : goal.new-first_there-requires
new-first_there-requires g c = top (IsSeatOf c.in-Ok.there) _ _ _ c.pop.ensures.items c.in-Ok.ensures.4 c.in-Some.seat c.in-Some.is

pub new-second_there-requires : goal.new-second_there-requires
new-second_there-requires g c = top (IsSeatOf c.in-Ok.there) _ _ _ c.pop-2.ensures.items (others (IsSeatOf c.in-Ok.there) _ _ _ c.pop.ensures.items c.in-Ok.ensures.4) c.in-Some-pop.seat c.in-Some-pop.is

pub new-first_back-requires : goal.new-first_back-requires
new-first_back-requires g c = top (IsSeatOf c.in-Ok-open.back) _ _ _ c.pop-3.ensures.items c.in-Ok-open.ensures.4 c.in-Some-pop-2.seat c.in-Some-pop-2.is

pub new-second_back-requires : goal.new-second_back-requires
new-second_back-requires g c = top (IsSeatOf c.in-Ok-open.back) _ _ _ c.pop-4.ensures.items (others (IsSeatOf c.in-Ok-open.back) _ _ _ c.pop-3.ensures.items c.in-Ok-open.ensures.4) c.in-Some-pop-3.seat c.in-Some-pop-3.is
