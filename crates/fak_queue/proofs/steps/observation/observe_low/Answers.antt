use Rattle.fak_queue.proofs.Common.{arith}
use Rattle.fak_queue.proofs.Allowed.{observes_low_allowed}
use Rattle.fak_queue.proofs.steps.observation.observe_low.Goals as goal

pub load-requires : goal.load-requires
load-requires g c =
    let t = c.requires.table in
    (t.same, omega (arith, t.words), observes_low_allowed c.args.words.now.key _ _ _ c.requires.seat.0 _ t.few c.requires.seat.1 c.requires.phase.0 c.requires.phase.1)
