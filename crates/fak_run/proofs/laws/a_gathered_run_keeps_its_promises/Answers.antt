use Rattle.fak_run.proofs.Reports.{promised}
use Rattle.fak_run.proofs.laws.a_gathered_run_keeps_its_promises.Goals as goal

pub returns : goal.returns
returns c = λ script seats h l rows gathered fit sorted. promised gathered rows fit sorted
