use Rattle.std.proofs.Common.{◌≡◌}
use Rattle.example_frames.specs.Frames.{HasPut, one_of}
use Rattle.example_frames.proofs.machine.fill.Given as goal

-- each frame below this number was put in once
abbrev pub invariant-loop-number : goal.invariant-loop-number
invariant-loop-number g l = (l.port.queue.now ≡ l.free) × HasPut (one_of l.number) l.port.seat
