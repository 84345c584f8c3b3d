use Rattle.std.specs.List.{sum_by}
use Rattle.example_backpressure.specs.Passing.{AreEnds, Moves, nothing}
use Rattle.example_backpressure.proofs.passing.consume.Given as goal

-- the ends have received the buffers of the list
abbrev pub invariant-loop : goal.invariant-loop
invariant-loop g l = AreEnds l.channel.queue.object l.channel.semaphore.object l.ends × Moves nothing (λ w. sum_by w l.into.items) l.fn.ends l.ends
