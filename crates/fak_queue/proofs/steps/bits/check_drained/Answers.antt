use Rattle.fak_queue.proofs.Common.{arith}
use Rattle.fak_queue.proofs.BitAllowed.{checks_drained_allowed}
use Rattle.fak_queue.proofs.steps.bits.check_drained.Goals as goal

pub load-found-requires : goal.load-found-requires
load-found-requires g c =
    let t = c.requires.table in
    (t.same, omega (arith, t.words), checks_drained_allowed c.args.words.now.key _ _ _ c.requires.seat.0 _ t.few c.requires.seat.1 c.requires.phase)
