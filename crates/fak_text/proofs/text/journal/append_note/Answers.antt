use Rattle.std.proofs.lemmas.Grind.{common_steps, elements}
use Rattle.fak_text.proofs.Common.{arith}
use Rattle.fak_text.proofs.text.journal.append_note.Goals as goal

pub returns-in_ok-append_prefix-in-Spawned : goal.returns-in_ok-append_prefix-in-Spawned
returns-in_ok-append_prefix-in-Spawned c = grind (arith, common_steps)

pub returns-in-NoBirth : goal.returns-in-NoBirth
returns-in-NoBirth c = grind (arith, elements)

pub returns-in-NoSlot : goal.returns-in-NoSlot
returns-in-NoSlot c = grind (arith, elements)
