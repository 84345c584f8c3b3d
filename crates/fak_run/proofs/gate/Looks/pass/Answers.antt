use Rattle.fak_run.proofs.Common.{rules}
use Rattle.fak_run.proofs.gate.Looks.pass.Goals as goal

pub returns-then-pass-clause-passed : goal.returns-then-pass-clause-passed
returns-then-pass-clause-passed g c = search rules

pub returns-then-pass-clause-next : goal.returns-then-pass-clause-next
returns-then-pass-clause-next g c = search rules

pub returns-clause-next : goal.returns-clause-next
returns-clause-next g c = search rules

pub returns-clause-refused : goal.returns-clause-refused
returns-clause-refused g c = search rules
