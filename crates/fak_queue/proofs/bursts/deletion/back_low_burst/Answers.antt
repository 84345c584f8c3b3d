use Rattle.fak_queue.proofs.Common.{arith}
use Rattle.fak_queue.proofs.BurstAllowed.{backs_low_burst_allowed}
use Rattle.fak_queue.proofs.bursts.deletion.back_low_burst.Goals as goal

pub fetch_add-requires : goal.fetch_add-requires
fetch_add-requires g c =
    let t = c.requires.token.table in
    (t.same, omega (arith, t.words), backs_low_burst_allowed c.args.words.now.key _ _ _ _ t.few _ _ c.requires.token.phase c.requires.token.names.0 c.requires.token.names.1 c.requires.token.names.2 _ c.requires.then _ c.requires.count.0 c.requires.count.1)
