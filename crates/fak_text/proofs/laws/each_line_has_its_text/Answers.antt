use Rattle.std.proofs.lemmas.Grind.{common_steps}
use Rattle.std.proofs.Common.{arith}
use Rattle.fak_text.specs.LineText.{text_of_line, text_of_refusal}
use Rattle.fak_text.proofs.laws.each_line_has_its_text.Goals as goal

pub returns : goal.returns
unfolding text_of_line text_of_refusal
returns c = grind (arith, common_steps)
