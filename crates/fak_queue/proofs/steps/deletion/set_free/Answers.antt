use Rattle.fak_queue.proofs.Common.{arith, ap, ◌∙◌, ℕ, ◌+◌, ◌*◌, ◌∷◌, None}
use Rattle.fak_queue.proofs.Allowed.{sets_free_allowed}
use Rattle.fak_queue.proofs.steps.deletion.set_free.Goals as goal

pub store-requires : goal.store-requires
store-requires g c =
    let t = c.requires.token.table in
    let p = c.requires.token.place in
    let near = p.near in
    let others = c.requires.slot.0 in
    (t.same, omega (arith, t.words, near), sets_free_allowed c.args.words.now.key _ _ _ c.requires.token.seat.0 _ t.few c.requires.token.seat.1 _ c.args.place.ticket _ (ap (λ (z : ℕ). z + 80) p.cell_is) others c.requires.token.phase (c.requires.slot.1 ∙ ap (λ (z : ℕ). (z, None) ∷ others) p.cell_is) (ap (λ (z : ℕ). 2 * z + 2) p.round_is))
