use Rattle.fak_queue.proofs.Common.{arith}
use Rattle.fak_queue.proofs.Allowed.{ends_in_allowed}
use Rattle.fak_queue.proofs.steps.insertion.end_in.Goals as goal

pub fetch_add-requires : goal.fetch_add-requires
fetch_add-requires g c =
    let t = c.requires.table in
    (t.same, omega (arith, t.words), ends_in_allowed c.args.words.now.key _ _ _ c.requires.seat.0 _ t.few c.requires.seat.1 _ c.requires.phase.1)
