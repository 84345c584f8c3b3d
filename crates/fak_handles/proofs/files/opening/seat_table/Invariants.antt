use Rattle.fak_handles.proofs.Common.{◌≡◌, ◌-◌, length, AreSeatedBelow}
use Rattle.fak_model.proofs.Common.{arc_value, fresh_seats}
use Rattle.fak_files.specs.Calls.{idle_seats}
use Rattle.fak_handles.specs.Openings.{IsFreshFile}
use Rattle.fak_handles.proofs.files.opening.seat_table.Given as goal

-- the handles below this one have seats, and the others' seats are to come
abbrev pub invariant-loop-i : goal.invariant-loop-i
invariant-loop-i l =
    (length l.handles ≡ l.i-end) × AreSeatedBelow (IsFreshFile (arc_value l.table) l.stint) l.i l.handles
    × (l.rest.rest.items ≡ idle_seats (fresh_seats (arc_value l.table).object l.stint l.i (l.i-end - l.i)))
