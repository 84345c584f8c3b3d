use Rattle.fak_queue.proofs.Common.{arith}
use Rattle.fak_queue.proofs.BurstEnds.{ends_burst_allowed}
use Rattle.fak_queue.proofs.bursts.insertion.end_burst.Goals as goal

pub fetch_add-requires : goal.fetch_add-requires
fetch_add-requires g c =
    let t = c.requires.token.table in
    let phase = c.requires.token.phase in
    (t.same, omega (arith, t.words), ends_burst_allowed c.args.words.now.key _ _ _ _ t.few _ phase.0 phase.1 c.requires.names.0 c.requires.names.1 _ c.requires.rest _ c.requires.count.0 c.requires.count.1 c.requires.ends)
