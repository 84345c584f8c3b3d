use Rattle.fak_processor.proofs.Common.{◌≡◌, None, refl, rules}
use Rattle.fak_processor.proofs.Starting.{no_slot_yet, no_slot_again, no_slot_goes, slot_at_last}
use Rattle.fak_processor.proofs.worker.Worker.take_first_slot.Goals as goal

pub loop-init : goal.loop-init
loop-init g c = ((tt, tt), no_slot_yet c.args.self.now, λ a. record { alone = a; lists_are = refl })

pub loop-preserved : goal.loop-preserved
loop-preserved g c =
    let was = c.loop.invariant in
    let is : c.in_ok-slot.field-0 ≡ None = search rules in
    let none = rw is at c.in_ok-slot.ensures.gains in
    let alone = rw is at c.in_ok-slot.ensures.alone in
    ((tt, tt), no_slot_again was.1 none, λ a. no_slot_goes (was.2 a) alone)

pub returns-in-Some-2-clause-general : goal.returns-in-Some-2-clause-general
returns-in-Some-2-clause-general g c =
    let some = rw c.in-Some-2.is at c.in_ok-slot.ensures.gains in
    slot_at_last c.loop.invariant.1 some
