use Rattle.std.proofs.lemmas.Grind.{common_steps}
use Rattle.std.proofs.Common.{arith}
use Rattle.fak_text.specs.LineText.{text_of_line}
use Rattle.fak_text.proofs.text.line.append_line.Goals as goal

pub returns : goal.returns
unfolding text_of_line
returns c = grind (arith, common_steps)
