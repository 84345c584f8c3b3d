use Rattle.std.proofs.Common.{◌≡◌}
use Rattle.std.specs.List.{All}
use Rattle.fak_queue.specs.BundleCalls.{IsIdleBundle}
use Rattle.fak_queue.specs.Queues.{IsIdleSeat}
use Rattle.fak_queue_tests.proofs.burst_storms.close_empty.Given as goal

-- the workers that are left are idle, and the tally belongs to the queue
abbrev pub invariant-loop : goal.invariant-loop
invariant-loop g l = All (λ w. IsIdleBundle l.queue.object w.bundle × IsIdleSeat l.queue.object w.seat) l.workers.items × (l.tally.object ≡ l.queue.object)
