use Rattle.std.proofs.Common.{◌≡◌, ℕ, List, subst}
use Rattle.fak_text.specs.Script.{ScriptOf}
use Rattle.fak_run.specs.Report.{ReportOf}
use Rattle.fak_run.specs.ReportText.{RunPrints}
use Rattle.fak_run.specs.RunReports.{RunReports}
use Rattle.fak_callers.proofs.reports.no_run_prints_wrong_names.Goals as goal

-- a run that prints a report has this report
reports_it : (script : ScriptOf) (text : List ℕ) (status : ℕ) (report : ReportOf) (run : RunPrints script text status) → run.report ≡ report → RunReports script report
reports_it script text status report run is = subst (RunReports script) is run.reports

pub returns-clause-version : goal.returns-clause-version
returns-clause-version c text status run is = c.reports_with_wrong_names_are_refused.ensures.version (reports_it _ text status _ run is)

pub returns-clause-bound : goal.returns-clause-bound
returns-clause-bound c text status run is = c.reports_with_wrong_names_are_refused.ensures.bound (reports_it _ text status _ run is)

pub returns-clause-births : goal.returns-clause-births
returns-clause-births c text status run is = c.reports_with_wrong_names_are_refused.ensures.births (reports_it _ text status _ run is)

pub returns-clause-order : goal.returns-clause-order
returns-clause-order c text status run is = c.reports_with_wrong_names_are_refused.ensures.order (reports_it _ text status _ run is)

pub returns-clause-name : goal.returns-clause-name
returns-clause-name c text status run is = c.reports_with_wrong_names_are_refused.ensures.name (reports_it _ text status _ run is)

pub returns-clause-program : goal.returns-clause-program
returns-clause-program c text status run is = c.reports_with_wrong_names_are_refused.ensures.program (reports_it _ text status _ run is)

pub returns-clause-lost : goal.returns-clause-lost
returns-clause-lost c text status run is = c.reports_with_wrong_names_are_refused.ensures.lost (reports_it _ text status _ run is)

pub returns-clause-too_many : goal.returns-clause-too_many
returns-clause-too_many c text status run is = c.reports_with_wrong_names_are_refused.ensures.too_many (reports_it _ text status _ run is)

pub returns-clause-no_birth : goal.returns-clause-no_birth
returns-clause-no_birth c text status run is = c.reports_with_wrong_names_are_refused.ensures.no_birth (reports_it _ text status _ run is)
