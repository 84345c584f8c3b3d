use Rattle.fak_queue.proofs.Common.{arith, ap, ℕ, ◌+◌}
use Rattle.fak_queue.proofs.BurstAllowed.{turns_out_burst_allowed}
use Rattle.fak_queue.proofs.bursts.deletion.turn_out_burst.Goals as goal

pub load-requires : goal.load-requires
load-requires g c =
    let t = c.requires.table in
    let p = c.requires.place in
    let near = p.near in
    let phase = c.requires.phase in
    (t.same, omega (arith, t.words, near), turns_out_burst_allowed c.args.words.now.key _ _ _ _ t.few _ _ phase.0 c.requires.name phase.1 _ (ap (λ (z : ℕ). z + 80) p.cell_is) phase.2)
