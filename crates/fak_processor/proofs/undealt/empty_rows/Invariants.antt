use Rattle.fak_processor.proofs.Common.{◌≡◌, [], map}
use Rattle.fak_processor.specs.Opened.{fresh_rows}
use Rattle.fak_processor.proofs.undealt.empty_rows.Given as goal

abbrev pub invariant-loop-name : goal.invariant-loop-name
invariant-loop-name g l = map (λ row. row.items) l.rows.items ≡ fresh_rows [] l._stint 0 l._name
