use Rattle.std.proofs.Common.{refl, subst}
use Rattle.fak_sem.specs.Semaphores.{Ups}
use Rattle.example_backpressure.proofs.Counting.{lets_through, wakes_nobody}
use Rattle.example_backpressure.proofs.channel.Ends.make_room.Goals as goal

pub returns-in-Ok-Some-clause-moves : goal.returns-in-Ok-Some-clause-moves
returns-in-Ok-Some-clause-moves g c = λ yes.
    let call = subst (Ups c.args.channel.now.semaphore c.args.self.now.semaphore c.up.new.seat) c.in-Ok-Some.field-0-is c.in-Ok-Some.ensures.call in
    lets_through c.args.self.now (record { queue = c.args.self.now.queue; semaphore = c.up.new.seat }) c.put.new.self c.in-Ok-Some.buffer call refl (c.put.ensures.moves yes)

pub returns-in-Ok-None-clause-moves : goal.returns-in-Ok-None-clause-moves
returns-in-Ok-None-clause-moves g c = λ yes.
    wakes_nobody c.args.self.now _ (subst (Ups c.args.channel.now.semaphore c.args.self.now.semaphore c.up.new.seat) c.in-Ok-None.field-0-is c.in-Ok-None.ensures.call) refl
