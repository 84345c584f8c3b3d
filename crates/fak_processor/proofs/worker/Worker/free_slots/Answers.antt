use Rattle.fak_processor.proofs.Common.{GoesTo, Begins, empty_lists, [], subst}
use Rattle.fak_processor.proofs.Starting.{begins_none, begins_then, filled_alone, numbers_next}
use Rattle.fak_processor.proofs.worker.Worker.free_slots.Goals as goal

pub loop-number-init : goal.loop-number-init
loop-number-init g c = (begins_none c.args.self.now, λ a. a)

pub loop-number-preserved : goal.loop-number-preserved
loop-number-preserved g c =
    let script = g.K.Run.script in
    let was = c.loop-number.invariant in
    let next = numbers_next c.loop-number.number c.new.result c.new.ensures in (
      subst (λ slots. Begins script [] [] slots [] c.args.self.now c.free_slot.new.self) next (begins_then was.0 c.in_ok-free_slot.ensures.general),
      λ a. subst (λ slots. GoesTo script c.free_slot.new.self (record (empty_lists script) { free_slots = slots })) next (filled_alone c.new.result (was.1 a) c.in_ok-free_slot.ensures.alone),
    )
