use Rattle.std.proofs.lemmas.Grind.{common_steps}
use Rattle.fak_text.proofs.Common.{steps_view, programs_of, length, arith, length-map}
use Rattle.fak_text.proofs.ReadRange.{numbers_are_few, numbers_are_below}
use Rattle.fak_text.proofs.StepRange.{programs_are_few, programs_are_in_range}
use Rattle.fak_text.proofs.reading.script.script_from.Goals as goal

pub invariant_of-result : goal.invariant_of-result
invariant_of-result c = grind (arith, common_steps, programs_of, length, length-map, steps_view, numbers_are_few, numbers_are_below, programs_are_few, programs_are_in_range)
