use Rattle.std.proofs.Common.{◌≡◌, ℕ, List, subst}
use Rattle.fak_text.specs.Script.{ScriptOf}
use Rattle.fak_run.specs.Report.{ReportOf}
use Rattle.fak_run.specs.ReportText.{RunPrints}
use Rattle.fak_run.specs.RunReports.{RunReports}
use Rattle.fak_callers.proofs.reports.no_run_prints_wrong_lines.Goals as goal

-- a run that prints a report has this report
reports_it : (script : ScriptOf) (text : List ℕ) (status : ℕ) (report : ReportOf) (run : RunPrints script text status) → run.report ≡ report → RunReports script report
reports_it script text status report run is = subst (RunReports script) is run.reports

pub returns-clause-one_slot : goal.returns-clause-one_slot
returns-clause-one_slot c text status run is = c.reports_with_wrong_lines_are_refused.ensures.one_slot (reports_it _ text status _ run is)

pub returns-clause-halted_slot : goal.returns-clause-halted_slot
returns-clause-halted_slot c text status run is = c.reports_with_wrong_lines_are_refused.ensures.halted_slot (reports_it _ text status _ run is)

pub returns-clause-passed : goal.returns-clause-passed
returns-clause-passed c text status run is = c.reports_with_wrong_lines_are_refused.ensures.passed (reports_it _ text status _ run is)

pub returns-clause-asleep : goal.returns-clause-asleep
returns-clause-asleep c text status run is = c.reports_with_wrong_lines_are_refused.ensures.asleep (reports_it _ text status _ run is)

pub returns-clause-upped : goal.returns-clause-upped
returns-clause-upped c text status run is = c.reports_with_wrong_lines_are_refused.ensures.upped (reports_it _ text status _ run is)

pub returns-clause-second : goal.returns-clause-second
returns-clause-second c text status run is = c.reports_with_wrong_lines_are_refused.ensures.second (reports_it _ text status _ run is)

pub returns-clause-other : goal.returns-clause-other
returns-clause-other c text status run is = c.reports_with_wrong_lines_are_refused.ensures.other (reports_it _ text status _ run is)

pub returns-clause-entry : goal.returns-clause-entry
returns-clause-entry c text status run is = c.reports_with_wrong_lines_are_refused.ensures.entry (reports_it _ text status _ run is)

pub returns-clause-unopened : goal.returns-clause-unopened
returns-clause-unopened c text status run is = c.reports_with_wrong_lines_are_refused.ensures.unopened (reports_it _ text status _ run is)

pub returns-clause-uses : goal.returns-clause-uses
returns-clause-uses c text status run is = c.reports_with_wrong_lines_are_refused.ensures.uses (reports_it _ text status _ run is)
