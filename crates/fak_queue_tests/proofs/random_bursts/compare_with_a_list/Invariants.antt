use Rattle.fak_queue.specs.BundleCalls.{IsIdleBundle}
use Rattle.fak_queue_tests.proofs.random_bursts.compare_with_a_list.Given as goal

-- the bundle is between two bursts
abbrev pub invariant-loop : goal.invariant-loop
invariant-loop g l = IsIdleBundle l.queue.object l.bundle
