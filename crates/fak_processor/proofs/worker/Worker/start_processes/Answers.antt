use Rattle.fak_text.specs.Script.{ScriptOf}
use Rattle.fak_processor.proofs.Common.{NameAndProgram, begun_names, Begins, ◌<◌, [], List, length, take, ap, subst, refl, arith, take_all, common_steps}
use Rattle.fak_processor.proofs.Starting.{all_started, begins_none, begins_then, names_next, started_next, started_none}
use Rattle.fak_processor.proofs.worker.Worker.start_processes.Goals as goal

pub loop-program-init : goal.loop-program-init
loop-program-init g c = (refl, omega arith, begins_none c.args.self.now, λ a. started_none a)

pub loop-program-preserved : goal.loop-program-preserved
loop-program-preserved g c =
    let script = g.K.Run.script in
    let was = c.loop-program.invariant in
    let xs = c.start-program-items.result.now in
    let i = c.loop-program.program-index in
    let low : i < length xs = omega (arith, c.loop-program-test.true) in
    let slots = ap (λ (s : ScriptOf). s.slots) c.self.invariant.3 in
    let below : c.loop-program.number < script.slots = omega (arith, was.0, low, ap length c.start-program-items.ensures.value, c.start-program-items.ensures.range.start_count, slots) in
    let names = names_next xs i c.loop-program.number 0 was.0 low in (
      omega (arith, was.0),
      omega (arith, low),
      subst (λ (l : List NameAndProgram). Begins script [] [] [] l c.args.self.now c.start_process.new.self) names (begins_then was.2 c.in_ok-start_process.ensures.general),
      λ a. started_next xs i c.loop-program.number 0 was.0 low below (was.3 a) c.in_ok-start_process.ensures.alone,
    )

pub returns-clause-general : goal.returns-clause-general
returns-clause-general g c = grind (arith, common_steps, take, take_all, begun_names)

pub returns-clause-alone : goal.returns-clause-alone
returns-clause-alone g c = grind (arith, common_steps, take, take_all, length, all_started)
