use Rattle.fak_processor.proofs.Common.{ids_of, ◌≡◌, ◌++◌, map, drop, All}
use Rattle.fak_processor.specs.Opened.{IsSemaphoreFor, fresh_rows}
use Rattle.fak_processor.proofs.plan.Plan.open_semaphores.Given as goal

-- the semaphores so far are open, and their seats are dealt
abbrev pub invariant-loop-start : goal.invariant-loop-start
invariant-loop-start g l = record {
  starts_are : map (λ s. s.object.start) l.semaphores.items ++ drop l.start-index l.starts ≡ l.starts;
  each : All (IsSemaphoreFor l.self.script.now l.self.processors) l.semaphores.items;
  rows : map (λ row. row.items) l.rows.items ≡ fresh_rows (ids_of l.semaphores.items) l.self.script.now.stint 0 l.self.processors;
}
