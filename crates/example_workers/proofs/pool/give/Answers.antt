use Rattle.std.proofs.Common.{arith, ◌∙◌}
use Rattle.fak_queue.proofs.Sums.{shut}
use Rattle.example_workers.specs.Counts.{leaps}
use Rattle.example_workers.proofs.pool.give.Goals as goal

pub returns-clause-given : goal.returns-clause-given
returns-clause-given g c = λ given.
    let was = c.loop.invariant in
    let adds = shut leaps c.args.queue.now.size c.shut.result c.shut.ensures.call in
    record {
      idle = (c.shut.ensures.object ∙ was.idle.0, c.shut.ensures.state);
      put_is = omega (arith, adds.put_is, was.put_is);
      got_is = omega (arith, adds.got_is, was.got_is);
    }
