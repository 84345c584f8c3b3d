use Rattle.fak_queue.proofs.Common.{arith, ap, ◌∙◌, ℕ, ◌+◌, ◌*◌, ◌∷◌, None}
use Rattle.fak_queue.proofs.BurstAllowed.{frees_burst_allowed}
use Rattle.fak_queue.proofs.bursts.deletion.free_burst.Goals as goal

pub store-requires : goal.store-requires
store-requires g c =
    let t = c.requires.token.table in
    let p = c.requires.token.place in
    let near = p.near in
    let phase = c.requires.token.phase in
    let slot = c.requires.slot in
    (t.same, omega (arith, t.words, near), frees_burst_allowed c.args.words.now.key _ _ _ _ t.few _ _ phase.0 c.requires.token.name phase.1 _ (ap (λ (z : ℕ). z + 80) p.cell_is) _ slot.0 phase.2 (slot.1 ∙ ap (λ (z : ℕ). (z, None) ∷ slot.0) p.cell_is) (ap (λ (z : ℕ). 2 * z + 2) p.round_is))
