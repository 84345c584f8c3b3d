use Rattle.fak_queue.proofs.Common.{arith, ap, ℕ, ◌+◌}
use Rattle.fak_queue.proofs.Allowed.{turns_out_allowed}
use Rattle.fak_queue.proofs.steps.deletion.turn_out.Goals as goal

pub load-requires : goal.load-requires
load-requires g c =
    let t = c.requires.table in
    let p = c.requires.place in
    let near = p.near in
    (t.same, omega (arith, t.words, near), turns_out_allowed c.args.words.now.key _ _ _ c.requires.seat.0 _ t.few c.requires.seat.1 _ c.args.place.ticket (ap (λ (z : ℕ). z + 80) p.cell_is) c.requires.phase)
