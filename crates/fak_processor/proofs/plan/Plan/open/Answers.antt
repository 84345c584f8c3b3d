use Rattle.fak_processor.proofs.Common.{◌<◌, arith, length}
use Rattle.fak_processor.proofs.Fresh.{done_between, done_reached, first_again, first_are, fresh_length}
use Rattle.fak_processor.proofs.plan.Plan.open.Goals as goal

pub remove-requires : goal.remove-requires
remove-requires g c =
    let opened = c.in_ok-objects.field-0 in
    omega (arith, c.args.self.now.range.0, opened.processors.ok, fresh_length opened.objects g.K.Run.script.stint c.args.self.now.processors c.in_ok-objects.ensures.fresh)

pub new-first-requires-clause-seats : goal.new-first-requires-clause-seats
new-first-requires-clause-seats g c = first_are c.in_ok-objects.field-0.objects g.K.Run.script.stint c.args.self.now.processors c.args.self.now.range.0 c.in_ok-objects.ensures.fresh c.remove.ensures.value

pub returns-in_ok-insert-in-Ok-clause-len : goal.returns-in_ok-insert-in-Ok-clause-len
returns-in_ok-insert-in-Ok-clause-len g c =
    let opened = c.in_ok-objects.field-0 in
    omega (arith, opened.processors.ok, c.remove.ensures.len, c.in_ok-insert-in-Ok.ensures.len, fresh_length opened.objects g.K.Run.script.stint c.args.self.now.processors c.in_ok-objects.ensures.fresh)

pub returns-in_ok-insert-in-Ok-clause-begun : goal.returns-in_ok-insert-in-Ok-clause-begun
returns-in_ok-insert-in-Ok-clause-begun g c = λ i d low.
    let opened = c.in_ok-objects.field-0 in
    let o = opened.objects in
    let stint = g.K.Run.script.stint in
    let n = c.args.self.now.processors in
    let first = c.begin-first.result.0 in
    let many = fresh_length o stint n c.in_ok-objects.ensures.fresh in
    let some : 0 < length opened.processors.items = omega (arith, c.args.self.now.range.0, many) in
    let below : i < n = omega (arith, low, many, opened.processors.ok, c.remove.ensures.len, c.in_ok-insert-in-Ok.ensures.len) in
    let set = first_again opened.processors.items c.remove.new.self.items c.insert.new.self.items first some c.remove.ensures.items c.in_ok-insert-in-Ok.ensures.items in
    let are = rw c.new-first.ensures.objects at c.begin-first.ensures.seats in
    let begins = rw (c.in-Ok.is, c.new-first.ensures.seats) at c.begin-first.ensures.general in
    done_between o stint n first c.in_ok-objects.ensures.made c.args.self.now.range.0 c.in_ok-objects.ensures.fresh c.remove.ensures.value set are begins i d below

pub returns-in_ok-insert-in-Ok-clause-alone : goal.returns-in_ok-insert-in-Ok-clause-alone
returns-in_ok-insert-in-Ok-clause-alone g c = λ one.
    let opened = c.in_ok-objects.field-0 in
    let o = opened.objects in
    let stint = g.K.Run.script.stint in
    let n = c.args.self.now.processors in
    let first = c.begin-first.result.0 in
    let many = fresh_length o stint n c.in_ok-objects.ensures.fresh in
    let some : 0 < length opened.processors.items = omega (arith, c.args.self.now.range.0, many) in
    let set = first_again opened.processors.items c.remove.new.self.items c.insert.new.self.items first some c.remove.ensures.items c.in_ok-insert-in-Ok.ensures.items in
    let reached = rw (c.in-Ok.is, c.new-first.ensures.seats) at c.begin-first.ensures.alone in
    done_reached o stint n first c.in_ok-objects.ensures.made c.args.self.now.range.0 c.in_ok-objects.ensures.fresh c.remove.ensures.value set one c.in_ok-objects.ensures.seated reached
