use Rattle.std.specs.Prelude.{◌≡◌, ◌+◌, ◌++◌, ◌≤◌, drop, take}
use Rattle.std.specs.VecDeque.{deque_capacity, deque_len}
use Rattle.fak_queue.proofs.bursts.keeping.keep.Given as goal

-- as many of the first items as there were rounds have moved
abbrev pub invariant-loop : goal.invariant-loop
invariant-loop g l =
    (l.counter ≤ l.count) × (l.items.items ≡ drop l.counter l.initial.items.items) × (l.kept.items ≡ l.initial.kept.items ++ take l.counter l.initial.items.items)
    × (deque_len l.items + l.counter ≡ deque_len l.initial.items) × (deque_len l.kept ≡ deque_len l.initial.kept + l.counter) × (deque_capacity l.kept ≡ deque_capacity l.initial.kept)
    × (deque_capacity l.items ≡ deque_capacity l.initial.items)
