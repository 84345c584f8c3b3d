use Rattle.std.proofs.Common.{◌≡◌, ℕ}
use Rattle.fak_queue.specs.Queues.{state_of}
use Rattle.fak_queue.specs.declared.state.SeatState.TheVariants.{Deleting}
use Rattle.bench_objects.proofs.attempts.claim_get.Given as goal

-- the seat is in the midst of a deletion
abbrev pub invariant-loop : goal.invariant-loop
invariant-loop g l = (l.seat.object ≡ l.queue.object) × ((k : ℕ) × (state_of l.seat ≡ Deleting k))
