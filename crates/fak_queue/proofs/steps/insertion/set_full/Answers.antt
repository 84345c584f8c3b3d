use Rattle.fak_queue.proofs.Common.{arith, ap, ◌∙◌, ℕ, ◌+◌, ◌*◌, ◌∷◌, Some}
use Rattle.fak_queue.proofs.Allowed.{sets_full_allowed}
use Rattle.fak_queue.proofs.steps.insertion.set_full.Goals as goal

pub store-requires : goal.store-requires
store-requires g c =
    let t = c.requires.table in
    let p = c.requires.place in
    let near = p.near in
    let x = c.requires.phase.0 in
    let others = c.requires.phase.2.0 in
    (t.same, omega (arith, t.words, near), sets_full_allowed c.args.words.now.key _ _ _ c.requires.seat.0 _ t.few c.requires.seat.1 _ c.args.place.ticket _ (ap (λ (z : ℕ). z + 80) p.cell_is) x others c.requires.phase.1 (c.requires.phase.2.1 ∙ ap (λ (z : ℕ). (z, Some x) ∷ others) p.cell_is) (ap (λ (z : ℕ). 2 * z + 1) p.round_is))
