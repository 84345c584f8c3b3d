use Rattle.fak_handles.proofs.Common.{◌≡◌, ◌-◌, length, AreSeatedBelow}
use Rattle.fak_model.proofs.Common.{arc_value}
use Rattle.fak_channel.specs.Undealt.{AreUndealt}
use Rattle.fak_handles.specs.Openings.{IsFreshChannel}
use Rattle.fak_handles.proofs.channel.opening.seat_channel.Given as goal

-- the handles below this one have ends, and the others' ends are to come
abbrev pub invariant-loop-i : goal.invariant-loop-i
invariant-loop-i l =
    (length l.handles ≡ l.i-end) × AreSeatedBelow (IsFreshChannel (arc_value l.channel) l._stint) l.i l.handles × AreUndealt (arc_value l.channel) l._stint l.i (l.i-end - l.i) l.rest
