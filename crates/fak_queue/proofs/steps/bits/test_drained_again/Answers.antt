use Rattle.fak_queue.proofs.Common.{arith}
use Rattle.fak_queue.proofs.BitAllowed.{tests_drained_again_allowed}
use Rattle.fak_queue.proofs.steps.bits.test_drained_again.Goals as goal

pub load-found-requires : goal.load-found-requires
load-found-requires g c =
    let t = c.requires.token.table in
    (t.same, omega (arith, t.words), tests_drained_again_allowed c.args.words.now.key _ _ _ c.requires.token.seat.0 _ t.few c.requires.token.seat.1 c.requires.token.phase c.requires.account)
