use Rattle.fak_run.proofs.Common.{rules}
use Rattle.fak_run.proofs.told_report.with_text.Goals as goal

pub returns-in_default : goal.returns-in_default
returns-in_default c = search rules
