use Rattle.fak_kernel.proofs.Common.{ap, subst}
use Rattle.fak_model.specs.Calls.{ObjectId}
use Rattle.fak_model.specs.Seats.{IsWhole}
use Rattle.fak_kernel.proofs.ending.closing.close.Goals as goal

pub close-requires-clause-whole : goal.close-requires-clause-whole
close-requires-clause-whole g c =
    let whole : IsWhole c.args.objects.ready.object.seats c.args.tallies.ready.names = subst (λ n. IsWhole n c.args.tallies.ready.names) (ap (λ (i : ObjectId). i.seats) c.requires.tallies.ready) c.requires.ready in
    rw (← c.tallies.view_is, ← c.objects.view_is) at whole

pub close-requires-2-clause-whole : goal.close-requires-2-clause-whole
close-requires-2-clause-whole g c =
    let whole : IsWhole c.args.objects.free.object.seats c.args.tallies.free.names = subst (λ n. IsWhole n c.args.tallies.free.names) (ap (λ (i : ObjectId). i.seats) c.requires.tallies.free) c.requires.free in
    rw (← c.tallies.view_is, ← c.objects.view_is) at whole

pub close-rest-requires-clause-whole : goal.close-rest-requires-clause-whole
close-rest-requires-clause-whole g c = rw (← c.tallies.view_is) at c.requires.files

pub close_each-requires-clause-whole : goal.close_each-requires-clause-whole
close_each-requires-clause-whole g c = rw (← c.tallies.view_is) at c.requires.semaphores
