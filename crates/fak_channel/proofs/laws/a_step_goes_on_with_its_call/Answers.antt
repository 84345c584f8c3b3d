use Rattle.fak_channel.proofs.CallSteps.{moved_since}
use Rattle.fak_channel.proofs.Following.{moved_follows}
use Rattle.fak_channel.proofs.Transitions.{moved_stands}
use Rattle.fak_channel.proofs.laws.a_step_goes_on_with_its_call.Goals as goal

pub returns-clause-stands : goal.returns-clause-stands
returns-clause-stands g c = λ channel old new s S moves. moved_stands channel old new S s moves

pub returns-clause-after : goal.returns-clause-after
returns-clause-after g c = λ channel old new s in_call moves. (moved_follows channel old new s in_call moves).after

pub returns-clause-call : goal.returns-clause-call
returns-clause-call g c = λ channel old new s S moves. moved_since channel old new S s moves
