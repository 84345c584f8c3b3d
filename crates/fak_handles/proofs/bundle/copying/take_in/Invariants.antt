use Rattle.std.specs.Prelude.{◌≡◌, take}
use Rattle.std.specs.VecDeque.{deque_capacity, deque_len}
use Rattle.fak_handles.proofs.bundle.copying.take_in.Given as goal

-- the items before this one are in
abbrev pub invariant-loop-i : goal.invariant-loop-i
invariant-loop-i l = (deque_len l.held ≡ l.i) × (l.held.items ≡ take l.i l.items) × (deque_capacity l.held ≡ deque_capacity l.fn.held)
