use Rattle.fak_processor.proofs.Common.{ap}
use Rattle.fak_processor.proofs.Asking.{asked_next}
use Rattle.fak_processor.proofs.worker.Worker.look.Goals as goal

pub returns-clause-asked : goal.returns-clause-asked
returns-clause-asked g c = λ before was. asked_next (g.G.Gate.answers c.args.gate.now c.args.looks.now.processor) was c.in_ok-take_front.ensures.looks (ap (λ l. l.made) c.pass.ensures.next) c.in-Ok.ensures.passed
