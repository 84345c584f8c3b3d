use Rattle.fak_queue.proofs.Common.{arith, ap, ◌∙◌, ℕ, ◌+◌, ◌*◌, ◌∷◌, Some}
use Rattle.fak_queue.proofs.BurstAllowed.{fills_burst_allowed}
use Rattle.fak_queue.proofs.bursts.insertion.fill_burst.Goals as goal

pub store-requires : goal.store-requires
store-requires g c =
    let t = c.requires.table in
    let p = c.requires.place in
    let near = p.near in
    let phase = c.requires.phase in
    (t.same, omega (arith, t.words, near), fills_burst_allowed c.args.words.now.key _ _ _ _ t.few _ _ phase.0 c.requires.name phase.1 _ (ap (λ (z : ℕ). z + 80) p.cell_is) phase.2.0 _ phase.2.2.0 phase.2.1 (phase.2.2.1 ∙ ap (λ (z : ℕ). (z, Some phase.2.0) ∷ phase.2.2.0) p.cell_is) (ap (λ (z : ℕ). 2 * z + 1) p.round_is))
