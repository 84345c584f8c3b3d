use Rattle.fak_queue.proofs.Common.{arith}
use Rattle.fak_queue.proofs.Settling.{settles_allowed}
use Rattle.fak_queue.proofs.resting.settle.Goals as goal

pub load-requires : goal.load-requires
load-requires g c =
    let t = c.requires.table in
    (t.same, omega (arith, t.words), settles_allowed c.args.words.now.key _ _ _ _ t.few c.requires.phase)
