use Rattle.std.proofs.Common.{rules}
use Rattle.example_backpressure.proofs.opening.is_empty.Goals as goal

pub returns-then-no_buffer_queued : goal.returns-then-no_buffer_queued
returns-then-no_buffer_queued c = λ yes. (c.queue_is_empty-no_buffer_queued.ensures (search (rules, c.if-no_buffer_queued.true)), c.semaphore_is_empty-none_held_back.ensures yes)
