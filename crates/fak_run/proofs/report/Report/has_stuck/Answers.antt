use Rattle.fak_run.proofs.Common.{◌∙◌, ap, sym, is_stuck, row_of}
use Rattle.std.specs.List.{list_any}
use Rattle.fak_run.proofs.RowLemmas.{list_any-map}
use Rattle.fak_run.proofs.report.Report.has_stuck.Goals as goal

pub returns : goal.returns
returns c =
    c.has_stuck_row.ensures ∙ ap (list_any (λ row. is_stuck row.outcome)) c.as_slice.ensures.value ∙ sym (list_any-map (λ row. is_stuck row.outcome) row_of c.args.self.now.rows.items)
