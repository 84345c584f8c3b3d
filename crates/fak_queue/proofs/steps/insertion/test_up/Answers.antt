use Rattle.fak_queue.proofs.Common.{rules, arith}
use Rattle.fak_queue.proofs.Allowed.{tests_up_allowed}
use Rattle.fak_queue.proofs.steps.insertion.test_up.Goals as goal

pub load-found-requires : goal.load-found-requires
load-found-requires g c =
    let t = c.requires.token.table in
    (t.same, omega (arith, t.words), tests_up_allowed c.args.words.now.key _ _ _ c.requires.token.seat.0 _ t.few c.requires.token.seat.1 _ _ c.requires.item c.requires.token.phase)

pub returns : goal.returns
returns g c = record { same = search rules; told = search rules }
