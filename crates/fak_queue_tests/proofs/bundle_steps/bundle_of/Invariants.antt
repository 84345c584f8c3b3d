use Rattle.std.proofs.Common.{◌≡◌}
use Rattle.std.specs.List.{All}
use Rattle.fak_queue.specs.Queues.{IsIdleSeat}
use Rattle.fak_queue_tests.proofs.bundle_steps.bundle_of.Given as goal

-- the seats that are left belong to the queue, and those of the bundle are idle too
abbrev pub invariant-loop : goal.invariant-loop
invariant-loop g l = All (λ s. s.object ≡ l.queue.object) l.seats.items × All (IsIdleSeat l.queue.object) l.own.items
