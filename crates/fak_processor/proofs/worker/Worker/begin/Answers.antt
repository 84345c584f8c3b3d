use Rattle.fak_processor.proofs.Common.{numbers_from, begun_names, Begins, [], subst, append-nil}
use Rattle.fak_processor.proofs.Starting.{begins_then, reached_first}
use Rattle.fak_processor.proofs.worker.Worker.begin.Goals as goal

pub returns-clause-general : goal.returns-clause-general
returns-clause-general g c =
    let script = g.K.Run.script in
    subst (λ slots. Begins script [] [] slots (begun_names 0 script.start) c.args.self.now c.start_processes.new.self) (append-nil (numbers_from 0 script.slots)) (begins_then c.in_ok-free_slots.ensures.general c.in_ok-start_processes.ensures.general)

pub returns-clause-alone : goal.returns-clause-alone
returns-clause-alone g c = λ a. reached_first (c.in_ok-start_processes.ensures.alone (c.in_ok-free_slots.ensures.alone a))
