use Rattle.std.specs.Prelude.{◌≡◌, ◌+◌, ◌++◌, take}
use Rattle.std.specs.VecDeque.{deque_capacity, deque_len}
use Rattle.fak_callers.proofs.bundles.put_from.Given as goal

-- the items before this one are in
abbrev pub invariant-loop-i : goal.invariant-loop-i
invariant-loop-i l = (deque_len l.held ≡ deque_len l.fn.held + l.i) × (l.held.items ≡ l.fn.held.items ++ take l.i l.rest) × (deque_capacity l.held ≡ deque_capacity l.fn.held)
