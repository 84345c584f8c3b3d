use Rattle.std.proofs.Common.{◌≡◌, ℕ}
use Rattle.fak_queue.specs.Queues.{state_of}
use Rattle.fak_queue.specs.declared.state.SeatState.TheVariants.{Deleting}
use Rattle.soak.proofs.forms.empty.Given as goal

-- a deletion of the seat is open
abbrev pub invariant-loop : goal.invariant-loop
invariant-loop g l = (l.seat.object ≡ l.queue.object) × ((k : ℕ) × (state_of l.seat ≡ Deleting k))
