use Rattle.std.proofs.lemmas.Grind.{common_steps}
use Rattle.std.proofs.Common.{arith}
use Rattle.fak_text.specs.LineText.{text_of_line, text_of_refusal}
use Rattle.fak_text.proofs.laws.the_texts_of_lines_are_known.Goals as goal

pub returns : goal.returns
unfolding text_of_line text_of_refusal
returns c = grind (arith, common_steps)
