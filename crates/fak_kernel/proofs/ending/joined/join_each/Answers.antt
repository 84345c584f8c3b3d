use Rattle.fak_kernel.proofs.Common.{◌≡◌, append_assoc, [], List, drop, arith, subst, append-nil, SemTallyInfo, Process, JoinEach}
use Rattle.fak_processor.proofs.Dealing.{drop_past}
use Rattle.fak_kernel.proofs.JoiningEach.{join_none, join_next}
use Rattle.fak_kernel.proofs.ending.joined.join_each.Goals as goal

pub returns : goal.returns
returns g c =
    let inv = c.loop-semaphore.invariant in
    let none : drop c.loop-semaphore.semaphore-index c.args.semaphores.now ≡ [] = drop_past c.loop-semaphore.semaphore-index c.args.semaphores.now (omega (arith, c.loop-semaphore-test.false)) in
    record { joined = subst (λ (l : List (SemTallyInfo Process)). JoinEach c.args.semaphores.now c.args.tallies.items c.args.seats.items l) (append-nil c.loop-semaphore.joined.items) (inv.whole [] (join_none _ c.loop-semaphore.tallies.rest.items c.loop-semaphore.seats.rest.items none inv.tallies inv.seats)) }

pub loop-semaphore-preserved : goal.loop-semaphore-preserved
loop-semaphore-preserved g c =
    let inv = c.loop-semaphore.invariant in
    let next = join_next c.loop-semaphore.semaphore-index c.args.semaphores.now c.semaphore-item.is c.loop-semaphore-test.true c.in-Some.ensures.cases.0 c.in-Some-next.ensures.cases.0 inv.tallies inv.seats c.join.ensures.joined c.join.ensures.object in
    record { tallies = next.0; seats = next.1; whole = λ more rest. rw (c.in_ok-push.ensures.items, append_assoc c.loop-semaphore.joined.items) (inv.whole _ (next.2 more rest)) }
