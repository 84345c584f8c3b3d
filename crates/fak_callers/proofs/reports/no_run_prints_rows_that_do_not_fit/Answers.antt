use Rattle.std.proofs.Common.{◌≡◌, ℕ, List, subst}
use Rattle.fak_text.specs.Script.{ScriptOf}
use Rattle.fak_run.specs.Report.{ReportOf}
use Rattle.fak_run.specs.ReportText.{RunPrints}
use Rattle.fak_run.specs.RunReports.{RunReports}
use Rattle.fak_callers.proofs.reports.no_run_prints_rows_that_do_not_fit.Goals as goal

-- a run that prints a report has this report
reports_it : (script : ScriptOf) (text : List ℕ) (status : ℕ) (report : ReportOf) (run : RunPrints script text status) → run.report ≡ report → RunReports script report
reports_it script text status report run is = subst (RunReports script) is run.reports

pub returns-clause-slot : goal.returns-clause-slot
returns-clause-slot c text status run is = c.reports_with_rows_that_do_not_fit_are_refused.ensures.slot (reports_it _ text status _ run is)

pub returns-clause-position : goal.returns-clause-position
returns-clause-position c text status run is = c.reports_with_rows_that_do_not_fit_are_refused.ensures.position (reports_it _ text status _ run is)

pub returns-clause-line : goal.returns-clause-line
returns-clause-line c text status run is = c.reports_with_rows_that_do_not_fit_are_refused.ensures.line (reports_it _ text status _ run is)

pub returns-clause-text : goal.returns-clause-text
returns-clause-text c text status run is = c.reports_with_rows_that_do_not_fit_are_refused.ensures.text (reports_it _ text status _ run is)

pub returns-clause-semaphore : goal.returns-clause-semaphore
returns-clause-semaphore c text status run is = c.reports_with_rows_that_do_not_fit_are_refused.ensures.semaphore (reports_it _ text status _ run is)

pub returns-clause-inode : goal.returns-clause-inode
returns-clause-inode c text status run is = c.reports_with_rows_that_do_not_fit_are_refused.ensures.inode (reports_it _ text status _ run is)

pub returns-clause-number : goal.returns-clause-number
returns-clause-number c text status run is = c.reports_with_rows_that_do_not_fit_are_refused.ensures.number (reports_it _ text status _ run is)

pub returns-clause-unended : goal.returns-clause-unended
returns-clause-unended c text status run is = c.reports_with_rows_that_do_not_fit_are_refused.ensures.unended (reports_it _ text status _ run is)

pub returns-clause-unstuck : goal.returns-clause-unstuck
returns-clause-unstuck c text status run is = c.reports_with_rows_that_do_not_fit_are_refused.ensures.unstuck (reports_it _ text status _ run is)

pub returns-clause-halted : goal.returns-clause-halted
returns-clause-halted c text status run is = c.reports_with_rows_that_do_not_fit_are_refused.ensures.halted (reports_it _ text status _ run is)

pub returns-clause-stuck : goal.returns-clause-stuck
returns-clause-stuck c text status run is = c.reports_with_rows_that_do_not_fit_are_refused.ensures.stuck (reports_it _ text status _ run is)
