use Rattle.std.specs.Prelude.{◌≡◌, ◌≤◌, ◌+◌, ◌-◌}
use Rattle.std.specs.VecDeque.{deque_capacity, deque_len}
use Rattle.fak_queue.specs.Bundles.{EmptiesOn}
use Rattle.fak_queue.proofs.bursts.emptying.take_while_ready.Given as goal

-- the cells of the names before this one are empty
abbrev pub invariant-loop-index : goal.invariant-loop-index
invariant-loop-index g l =
    (l.token.table_id ≡ l.initial.token.table_id) × (l.at.done ≤ l.index) × (l.index ≤ l.at.granted)
    × EmptiesOn l.words.table_id.slots l.words.key.seats l.at.names.now l.at.ticket l.at.done l.index l.at.granted l.initial.out.items l.out.items l.initial.token.me l.token.me
    × (deque_len l.out + (l.at.granted - l.index) ≤ deque_capacity l.out) × (deque_capacity l.out ≡ deque_capacity l.initial.out) × (deque_len l.out ≡ deque_len l.initial.out + (l.index - l.at.done))
