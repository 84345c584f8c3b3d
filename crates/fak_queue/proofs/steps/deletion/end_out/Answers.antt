use Rattle.fak_queue.proofs.Common.{arith}
use Rattle.fak_queue.proofs.Allowed.{ends_out_allowed}
use Rattle.fak_queue.proofs.steps.deletion.end_out.Goals as goal

pub fetch_sub-requires : goal.fetch_sub-requires
fetch_sub-requires g c =
    let t = c.requires.table in
    (t.same, omega (arith, t.words), ends_out_allowed c.args.words.now.key _ _ _ c.requires.seat.0 _ t.few c.requires.seat.1 _ c.requires.phase.1)
