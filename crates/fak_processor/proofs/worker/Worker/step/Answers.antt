use Rattle.fak_processor.proofs.Asking.{asked_still}
use Rattle.fak_processor.proofs.worker.Worker.step.Goals as goal

pub returns-in-Some-clause-asked : goal.returns-in-Some-clause-asked
returns-in-Some-clause-asked g c = λ before was. asked_still (g.G.Gate.answers c.args.gate.now c.args.looks.now.processor) was c.in_ok-continue_turn-in-Some.ensures.step.looks
