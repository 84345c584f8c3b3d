use Rattle.std.proofs.Common.{rules}
use Rattle.fak_callers.proofs.files.end_lawfully.Goals as goal

pub returns-clause-idle : goal.returns-clause-idle
returns-clause-idle c = search rules

pub returns-clause-before : goal.returns-clause-before
returns-clause-before c = search rules
