use Rattle.fak_queue.proofs.Common.{rules, arith}
use Rattle.fak_queue.proofs.Allowed.{tests_low_allowed}
use Rattle.fak_queue.proofs.steps.deletion.test_low.Goals as goal

pub load-found-requires : goal.load-found-requires
load-found-requires g c =
    let t = c.requires.table in
    (t.same, omega (arith, t.words), tests_low_allowed c.args.words.now.key _ _ _ c.requires.seat.0 _ t.few c.requires.seat.1 c.requires.phase)

pub returns : goal.returns
returns g c = record { same = search rules; told = search rules }
