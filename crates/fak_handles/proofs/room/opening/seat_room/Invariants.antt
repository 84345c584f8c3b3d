use Rattle.fak_handles.proofs.Common.{◌≡◌, ◌-◌, length, AreSeatedBelow}
use Rattle.fak_model.proofs.Common.{arc_value, fresh_seats}
use Rattle.fak_handles.specs.Openings.{IsFreshRoom}
use Rattle.fak_handles.proofs.room.opening.seat_room.Given as goal

-- the handles below this one have seats, and the others' seats are to come
abbrev pub invariant-loop-i : goal.invariant-loop-i
invariant-loop-i l =
    (length l.handles ≡ l.i-end) × AreSeatedBelow (IsFreshRoom (arc_value l.room) l.stint) l.i l.handles
    × (l.rest.rest.items ≡ fresh_seats (arc_value l.room).object l.stint l.i (l.i-end - l.i))
