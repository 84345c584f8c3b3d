use Rattle.fak_queue.proofs.Common.{arith}
use Rattle.fak_queue.proofs.BurstAllowed.{tests_low_burst_allowed}
use Rattle.fak_queue.proofs.bursts.deletion.test_low_burst.Goals as goal

pub load-requires : goal.load-requires
load-requires g c =
    let t = c.requires.token.table in
    (t.same, omega (arith, t.words), tests_low_burst_allowed c.args.words.now.key _ _ _ _ t.few _ _ c.requires.token.phase c.requires.token.names.0 c.requires.token.names.1 c.requires.token.names.2 c.requires.all c.requires.idle)
