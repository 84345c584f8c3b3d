use Rattle.std.proofs.Common.{inl, inr, arith}
use Rattle.fak_core.specs.QueueSchedule.{reached, stepped}
use Rattle.fak_callers.proofs.progress.ends_at_its_seventh_step.Goals as goal

pub returns : goal.returns
returns g c = record {
  seventh = λ size schedule s z six moves.
      let after = (stepped size (reached size schedule) s).phase s in
      elim (c.a_call_has_few_steps.ensures.counted size schedule s z moves) [
        | inl idle ↦ idle
        | inr more ↦ c.a_call_has_few_steps.ensures.none after (omega (arith, six, more, c.a_call_has_few_steps.ensures.most after))
      ];
  fewer = λ size schedule s z moves. omega (arith, c.a_call_has_few_steps.ensures.fewer size schedule s z moves);
  withdrawn = c.a_call_has_few_steps.ensures.withdrawn;
}
