use Rattle.std.proofs.Common.{[], ◌∷◌, ap, arith}
use Rattle.fak_run.specs.Report.{ReportOf}
use Rattle.fak_callers.proofs.runs.a_report_names_each_process_once.Goals as goal

pub returns-clause-twice : goal.returns-clause-twice
returns-clause-twice c script a b version births bound entries reports =
    c.the_list_scheduler_reports_each_name_once.ensures.once script (record { version = version; rows = a ∷ b ∷ []; births = births; bound = bound; entries = entries }) reports 0 1 a (omega arith) (omega arith)

pub returns-clause-births : goal.returns-clause-births
returns-clause-births c script a b first second =
    ap (λ (report : ReportOf). report.births) (c.the_list_scheduler_reports_each_name_once.ensures.one script a b first second)
