use Rattle.fak_processor.proofs.Common.{arith, map, common_steps}
use Rattle.fak_processor.specs.Opened.{fresh_rows}
use Rattle.std.proofs.lemmas.List.{map-append}
use Rattle.fak_processor.proofs.Dealing.{rows_next}
use Rattle.fak_processor.proofs.undealt.empty_rows.Goals as goal

pub loop-name-preserved : goal.loop-name-preserved
loop-name-preserved g c = grind (arith, common_steps, rows_next, map-append, map, fresh_rows)
