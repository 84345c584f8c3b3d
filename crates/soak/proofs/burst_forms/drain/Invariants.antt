use Rattle.std.specs.VecDeque.{deque_len}
use Rattle.soak.proofs.burst_forms.drain.Given as goal

abbrev pub decreases-loop-item : goal.decreases-loop-item
decreases-loop-item l = deque_len l.items
