use Rattle.std.specs.Prelude.{◌≡◌, ◌++◌, drop, length, take}
use Rattle.std.specs.VecDeque.{deque_capacity}
use Rattle.fak_handles.proofs.bundle.copying.hand_out.Given as goal

-- the places before this one have their items, and the others are as they were; the deque has the items after these
abbrev pub invariant-loop-i : goal.invariant-loop-i
invariant-loop-i l =
    (length l.items ≡ length l.fn.items) × (l.items ≡ take l.i l.fn.held.items ++ drop l.i l.fn.items) × (l.held.items ≡ drop l.i l.fn.held.items) × (deque_capacity l.held ≡ deque_capacity l.fn.held)
