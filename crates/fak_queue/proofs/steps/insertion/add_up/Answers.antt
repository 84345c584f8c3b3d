use Rattle.fak_queue.proofs.Common.{rules, arith}
use Rattle.fak_queue.proofs.Allowed.{adds_up_allowed}
use Rattle.fak_queue.proofs.steps.insertion.add_up.Goals as goal

pub fetch_add-found-requires : goal.fetch_add-found-requires
fetch_add-found-requires g c =
    let t = c.requires.token.table in
    (t.same, omega (arith, t.words), adds_up_allowed c.args.words.now.key _ _ _ c.requires.token.seat.0 _ t.few c.requires.token.seat.1 _ c.requires.token.phase.1)

pub returns : goal.returns
returns g c = record { same = search rules; told = search rules }
