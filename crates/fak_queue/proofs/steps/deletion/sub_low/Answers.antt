use Rattle.fak_queue.proofs.Common.{arith}
use Rattle.fak_queue.proofs.Allowed.{subtracts_low_allowed}
use Rattle.fak_queue.proofs.steps.deletion.sub_low.Goals as goal

pub fetch_sub-found-requires : goal.fetch_sub-found-requires
fetch_sub-found-requires g c =
    let t = c.requires.table in
    (t.same, omega (arith, t.words), subtracts_low_allowed c.args.words.now.key _ _ _ c.requires.seat.0 _ t.few c.requires.seat.1 c.requires.phase)
