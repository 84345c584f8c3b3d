use Rattle.fak_queue.proofs.Common.{arith}
use Rattle.fak_queue.proofs.BurstEnds.{ends_out_burst_allowed}
use Rattle.fak_queue.proofs.bursts.deletion.end_out_burst.Goals as goal

pub fetch_sub-requires : goal.fetch_sub-requires
fetch_sub-requires g c =
    let t = c.requires.token.table in
    let phase = c.requires.token.phase in
    (t.same, omega (arith, t.words), ends_out_burst_allowed c.args.words.now.key _ _ _ _ t.few _ phase.0 phase.1 c.requires.names.0 c.requires.names.1 _ c.requires.rest _ c.requires.count.0 c.requires.count.1 c.requires.ends)
