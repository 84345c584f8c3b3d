use Rattle.std.proofs.Common.{◌≡◌, ℕ}
use Rattle.fak_queue.specs.Queues.{state_of}
use Rattle.fak_queue.specs.declared.state.SeatState.TheVariants.{Inserting}
use Rattle.bench_objects.proofs.attempts.claim_put.Given as goal

-- the seat is in the midst of an insertion
abbrev pub invariant-loop : goal.invariant-loop
invariant-loop g l = (l.seat.object ≡ l.queue.object) × ((k : ℕ) × (state_of l.seat ≡ Inserting k))
