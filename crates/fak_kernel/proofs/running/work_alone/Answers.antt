use Rattle.fak_kernel.proofs.Common.{◌≡◌, length, sym, subst, arith, HasBegun, HasLeft}
use Rattle.fak_kernel.proofs.Indexing.{only_one}
use Rattle.fak_kernel.proofs.Leaving.{has_left}
use Rattle.fak_kernel.proofs.running.work_alone.Goals as goal

pub returns-in_ok-push-in-Ok-true-clause-left : goal.returns-in_ok-push-in-Ok-true-clause-left
returns-in_ok-push-in-Ok-true-clause-left g c = λ d.
    let script = g.K.Run.script in
    let o = c.args.objects.now in
    let done = c.in-Ok-true.field-0-test in
    let seats = c.work-seats.result.0 in
    let made = rw c.new-processor.ensures.objects at c.new-processor.result.made in
    let begun = subst (HasBegun script o 1 0) (sym c.remove.ensures.value) (c.requires.begun c.remove.result) in
    let are = rw c.new-processor.ensures.objects at c.work-seats.ensures.seats in
    let general = rw (c.in-Ok-true.is, c.new-processor.ensures.seats) at c.work-seats.ensures.general in
    let alone = rw (c.in-Ok-true.is, c.new-processor.ensures.seats) at c.work-seats.ensures.alone in
    let left = has_left made begun are (general done) (λ reached. alone reached done) in
    let none : length c.remove.new.self.items ≡ 0 = omega (arith, c.requires.one, c.remove.ensures.len, c.remove.new.self.ok) in
    subst (HasLeft script o 1 0) (sym (only_one c.remove.new.self.items c.push.new.self.items seats d none c.in_ok-push-in-Ok-true.ensures.items)) left
