use Rattle.std.specs.Prelude.{◌≡◌, ◌<◌, ◌≤◌}
use Rattle.std.specs.VecDeque.{deque_capacity}
use Rattle.fak_queue.specs.Bundles.{FilledOn}
use Rattle.fak_queue.proofs.bursts.waiting.fill_all.Given as goal

-- the cells up to here are filled, and these insertions have ended
abbrev pub invariant-loop : goal.invariant-loop
invariant-loop g l =
    (l.token.table_id ≡ l.initial.token.table_id) × (l.at.done ≤ l.done) × (l.done < l.at.granted)
    × FilledOn l.words.table_id.slots l.words.key.seats l.at.names.now l.at.ticket l.at.done l.done l.at.granted l.initial.kept.items l.kept.items l.initial.token.me l.token.me
    × (deque_capacity l.kept ≡ deque_capacity l.initial.kept)
