use Rattle.fak_run.proofs.Common.{rules}
use Rattle.fak_run.proofs.report.Report.exit_status.Goals as goal

pub returns-then-has_stuck : goal.returns-then-has_stuck
returns-then-has_stuck c = search rules

pub returns-else-has_stuck : goal.returns-else-has_stuck
returns-else-has_stuck c = search rules
