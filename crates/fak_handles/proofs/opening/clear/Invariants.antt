use Rattle.fak_handles.proofs.Common.{◌≡◌, length, AreEmptyBelow}
use Rattle.fak_handles.proofs.opening.clear.Given as goal

-- as many handles as before, and those below this one are empty
abbrev pub invariant-loop-i : goal.invariant-loop-i
invariant-loop-i l = (length l.handles ≡ l.i-end) × AreEmptyBelow l.i l.handles
