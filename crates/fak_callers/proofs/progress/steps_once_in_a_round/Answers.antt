use Rattle.std.proofs.Common.{◌≡◌, ◌-◌, ℕ, Option, Some, ap, sym, ◌∙◌, arith, slice_get}
use Rattle.fak_core.specs.QueueProgress.{round_robin}
use Rattle.fak_core.specs.QueueSchedule.{QueueEvent, Advances}
use Rattle.fak_callers.proofs.progress.steps_once_in_a_round.Goals as goal

same_seat : {A : Type 0} (s t : ℕ) → ◌≡◌ {A = Option (QueueEvent A)} (Some (Advances s)) (Some (Advances t)) → s ≡ t
same_seat s t e = cc

pub returns : goal.returns
returns g c = record {
  long = c.a_round_robin_steps_each_seat_once.ensures.long;
  once = λ n i s low at.
      let there = c.a_round_robin_steps_each_seat_once.ensures.each n (n - 1 - i) (omega (arith, low)) in
      let place : n - 1 - (n - 1 - i) ≡ i = omega (arith, low) in
      let same = same_seat s (n - 1 - i) (sym at ∙ (ap (slice_get (round_robin n)) (sym place) ∙ there)) in
      omega (arith, low, same);
}
