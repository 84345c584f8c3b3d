use Rattle.fak_queue.proofs.Common.{arith}
use Rattle.fak_queue.proofs.Allowed.{draws_in_allowed}
use Rattle.fak_queue.proofs.steps.insertion.ticket_in.Goals as goal

pub fetch_add-requires : goal.fetch_add-requires
fetch_add-requires g c =
    let t = c.requires.token.table in
    (t.same, omega (arith, t.words), draws_in_allowed c.args.words.now.key _ _ _ c.requires.token.seat.0 _ t.few c.requires.token.seat.1 _ c.requires.token.phase.1 c.requires.left)
