use Rattle.std.proofs.Common.{◌∙◌, ap, sym}
use Rattle.fak_run.specs.Report.{exit_status}
use Rattle.fak_callers.proofs.reports.a_stuck_process_shows_in_the_status.Goals as goal

pub returns-clause-stuck : goal.returns-clause-stuck
returns-clause-stuck c script text status run is = run.status_is ∙ (ap exit_status is ∙ c.known_reports_have_known_statuses.ensures.stuck)

pub returns-clause-others : goal.returns-clause-others
returns-clause-others c script text status run is = run.status_is ∙ (ap exit_status is ∙ c.known_reports_have_known_statuses.ensures.others)

pub returns-clause-printed : goal.returns-clause-printed
returns-clause-printed c text status run is none =
    c.known_reports_have_known_statuses.ensures.printed text (record { report = run.report; reports = run.reports; text_is = run.text_is; status_is = sym none ∙ run.status_is }) is
