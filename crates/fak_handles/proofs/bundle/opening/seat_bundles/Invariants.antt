use Rattle.std.specs.Prelude.{◌≡◌, ◌+◌, ◌*◌, ℕ, length}
use Rattle.std.specs.Arc.{arc_value}
use Rattle.fak_model.specs.Calls.{fresh_seats}
use Rattle.fak_handles.specs.bundle.Opening.{IsFreshBundle}
use Rattle.fak_handles.specs.Openings.{AreSeatedBelow}
use Rattle.fak_handles.proofs.bundle.opening.seat_bundles.Given as goal

-- the handles below this one have bundles, and the others' seats are to come
abbrev pub invariant-loop-i : goal.invariant-loop-i
invariant-loop-i l =
    (length l.handles ≡ l.i-end) × AreSeatedBelow (IsFreshBundle (arc_value l.queue) l.stint l.first l.width) l.i l.handles
    × ((k : ℕ) × (l.rest.rest.items ≡ fresh_seats (arc_value l.queue).object l.stint (l.first + l.i * l.width) k))
