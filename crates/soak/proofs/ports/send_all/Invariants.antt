use Rattle.std.proofs.Common.{◌≡◌}
use Rattle.soak.proofs.ports.send_all.Given as goal

-- the port belongs to the same queue
abbrev pub invariant-loop-number : goal.invariant-loop-number
invariant-loop-number g l = l.port.queue ≡ l.fn.port.queue
