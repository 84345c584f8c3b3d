use Rattle.std.specs.Prelude.{◌≡◌, ◌≤◌}
use Rattle.std.specs.VecDeque.{deque_capacity}
use Rattle.fak_queue.specs.Bundles.{FillsOn}
use Rattle.fak_queue.proofs.bursts.filling.fill_while_ready.Given as goal

-- the cells of the names before this one are filled
abbrev pub invariant-loop-index : goal.invariant-loop-index
invariant-loop-index g l =
    (l.token.table_id ≡ l.initial.token.table_id) × (l.at.done ≤ l.index) × (l.index ≤ l.at.granted)
    × FillsOn l.words.table_id.slots l.words.key.seats l.at.names.now l.at.ticket l.at.done l.index l.at.granted l.initial.kept.items l.kept.items l.initial.token.me l.token.me
    × (deque_capacity l.kept ≡ deque_capacity l.initial.kept)
