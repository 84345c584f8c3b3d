use Rattle.fak_sem.proofs.Common.{[]}
use Rattle.fak_sem.proofs.Weights.{debits-by}
use Rattle.fak_sem.proofs.laws.each_down_passes_or_parks.Goals as goal

pub returns : goal.returns
returns c = λ start name h. debits-by name start [] h
