use Rattle.std.proofs.Common.{◌≡◌}
use Rattle.example_frames.specs.Frames.{Keeps}
use Rattle.example_frames.proofs.machine.churn.Given as goal

-- what was taken was given back
abbrev pub invariant-loop : goal.invariant-loop
invariant-loop g l = (l.port.queue.now ≡ l.free) × Keeps l.fn.seat l.port.seat
