use Rattle.std.proofs.lemmas.Grind.{common_steps}
use Rattle.fak_run.proofs.Common.{arith}
use Rattle.fak_run.proofs.text.add_told_note.Goals as goal

pub returns-in_ok-push_str-in-Say-Some-Say-3 : goal.returns-in_ok-push_str-in-Say-Some-Say-3
returns-in_ok-push_str-in-Say-Some-Say-3 c = grind (arith, common_steps)
