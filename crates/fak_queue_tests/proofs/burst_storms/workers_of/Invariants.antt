use Rattle.std.proofs.Common.{◌≡◌}
use Rattle.std.specs.List.{All}
use Rattle.fak_queue.specs.BundleCalls.{IsIdleBundle}
use Rattle.fak_queue.specs.Queues.{IsIdleSeat}
use Rattle.fak_queue_tests.proofs.burst_storms.workers_of.Given as goal

-- the seats that are left belong to the queue, and the workers are idle
abbrev pub invariant-loop : goal.invariant-loop
invariant-loop g l = All (λ s. s.object ≡ l.queue.object) l.seats.items × All (λ w. IsIdleBundle l.queue.object w.bundle × IsIdleSeat l.queue.object w.seat) l.workers.items
