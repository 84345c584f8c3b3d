use Rattle.std.proofs.Common.{◌≡◌, List, ◌++◌}
use Rattle.std.specs.List.{sum_by}
use Rattle.std.specs.Vec.Iter.{into_iter_items}
use Rattle.example_backpressure.specs.declared.channel.Buffer.{Buffer}
use Rattle.example_backpressure.specs.Passing.{AreEnds, Moves, nothing}
use Rattle.example_backpressure.proofs.passing.produce.Given as goal

-- the ends have sent the buffers that are no more to come
abbrev pub invariant-loop-buffer : goal.invariant-loop-buffer
invariant-loop-buffer g l =
    AreEnds l.channel.queue.object l.channel.semaphore.object l.ends
    × ((sent : List Buffer) × (sent ++ into_iter_items l.buffer-iterator ≡ l.fn.buffers.items) × Moves (λ w. sum_by w sent) nothing l.fn.ends l.ends)
