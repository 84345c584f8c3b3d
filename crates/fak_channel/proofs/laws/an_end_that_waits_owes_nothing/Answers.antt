use Rattle.fak_channel.proofs.Waiting.{idle_rests, asleep_rests}
use Rattle.fak_channel.proofs.laws.an_end_that_waits_owes_nothing.Goals as goal

pub returns-clause-idle : goal.returns-clause-idle
returns-clause-idle g c = λ channel e w S is. idle_rests channel e S w is

pub returns-clause-asleep : goal.returns-clause-asleep
returns-clause-asleep g c = λ channel e w S is. asleep_rests channel e S w is
