use Rattle.fak_queue.proofs.Common.{arith}
use Rattle.fak_queue.proofs.BurstAllowed.{subs_burst_allowed}
use Rattle.fak_queue.proofs.bursts.deletion.sub_burst.Goals as goal

pub fetch_sub-requires : goal.fetch_sub-requires
fetch_sub-requires g c =
    let t = c.requires.token.table in
    (t.same, omega (arith, t.words), subs_burst_allowed c.args.words.now.key _ _ _ _ t.few _ _ c.requires.token.phase c.requires.token.names.0 c.requires.token.names.1 c.requires.token.names.2 _ c.requires.count.0 c.requires.count.1)
