use Rattle.fak_kernel.proofs.Common.{rules}
use Rattle.fak_kernel.proofs.ending.reporting.report_with.Goals as goal

pub returns : goal.returns
returns c = search rules
