use Rattle.std.proofs.Common.{◌≡◌, ℕ}
use Rattle.fak_queue.specs.Queues.{state_of}
use Rattle.fak_queue.specs.declared.state.SeatState.TheVariants.{Inserting}
use Rattle.soak.proofs.forms.fill.Given as goal

-- an insertion of the seat is open
abbrev pub invariant-loop : goal.invariant-loop
invariant-loop g l = (l.seat.object ≡ l.queue.object) × ((k : ℕ) × (state_of l.seat ≡ Inserting k))
