use Rattle.fak_callers.proofs.beginnings.a_run_without_steps_reports_nothing.Goals as goal

pub returns-clause-report : goal.returns-clause-report
returns-clause-report c report reports = c.turns_without_steps_never_end.ensures reports.0 reports.1

pub returns-clause-text : goal.returns-clause-text
returns-clause-text c text status run = c.turns_without_steps_never_end.ensures run.reports.0 run.reports.1
