use Rattle.fak_core.specs.declared.queue.phase.Phase.TheVariants as phase
use Rattle.fak_core.specs.QueueSchedule.{Inserts}
use Rattle.fak_queue.proofs.Common.{[], ◌∷◌, ℕ, Phase, arith, at_else, is_reached}
use Rattle.fak_queue.proofs.laws.examples.the_seats_of_a_queue_are_judged.Goals as goal

pub returns-clause-among : goal.returns-clause-among
returns-clause-among c = record {
  reached = is_reached 1 (Inserts 1 10 ∷ []);
  beyond = λ s far. at_else (λ (t : ℕ). let p : Phase ℕ = phase.Idle in p) 1 s (phase.TestUp 10) (λ q. omega (arith, far, q));
}
