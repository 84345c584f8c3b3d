use Rattle.std.proofs.Common.{◌≡◌}
use Rattle.soak.proofs.ports.receive_all.Given as goal

-- the port belongs to the same queue
abbrev pub invariant-loop : goal.invariant-loop
invariant-loop g l = l.port.queue ≡ l.fn.port.queue
