use Rattle.std.specs.Prelude.{◌≡◌, ◌<◌, ◌≤◌, ◌+◌, ◌-◌}
use Rattle.std.specs.VecDeque.{deque_capacity, deque_len}
use Rattle.fak_queue.specs.Bundles.{EmptiedOn}
use Rattle.fak_queue.proofs.bursts.waiting.take_all.Given as goal

-- the cells up to here are empty, and these deletions have ended
abbrev pub invariant-loop : goal.invariant-loop
invariant-loop g l =
    (l.token.table_id ≡ l.initial.token.table_id) × (l.at.done ≤ l.done) × (l.done < l.at.granted)
    × EmptiedOn l.words.table_id.slots l.words.key.seats l.at.names.now l.at.ticket l.at.done l.done l.at.granted l.initial.out.items l.out.items l.initial.token.me l.token.me
    × (deque_len l.out + (l.at.granted - l.done) ≤ deque_capacity l.out) × (deque_capacity l.out ≡ deque_capacity l.initial.out)
