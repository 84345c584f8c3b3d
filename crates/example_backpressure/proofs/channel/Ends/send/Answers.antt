use Rattle.std.proofs.Common.{ap, arith, refl, subst}
use Rattle.fak_sem.specs.Semaphores.{Downs}
use Rattle.example_backpressure.specs.declared.channel.Ends.{Ends}
use Rattle.example_backpressure.specs.Passing.{nothing}
use Rattle.example_backpressure.proofs.Counting.{held_back, moves_then, passes_semaphore}
use Rattle.example_backpressure.proofs.channel.Ends.send.Goals as goal

pub returns-in-Ok-Some-clause-moves : goal.returns-in-Ok-Some-clause-moves
returns-in-Ok-Some-clause-moves g c = λ yes.
    let call = subst (Downs c.args.channel.now.semaphore c.args.buffer c.args.self.now.semaphore c.down.new.seat) c.in-Ok-Some.field-0-is c.in-Ok-Some.ensures.call in
    let mid : Ends = record { queue = c.args.self.now.queue; semaphore = c.down.new.seat } in
    moves_then nothing nothing (λ w. w c.in-Ok-Some.buffer) nothing (λ w. w c.args.buffer) nothing (passes_semaphore c.args.self.now mid c.in-Ok-Some.buffer call refl) (c.put.ensures.moves yes)
    (λ w. omega (arith, ap w call.passes.0)) (λ w. refl)

pub returns-in-Ok-None-clause-moves : goal.returns-in-Ok-None-clause-moves
returns-in-Ok-None-clause-moves g c = λ yes.
    held_back c.args.self.now _ (subst (Downs c.args.channel.now.semaphore c.args.buffer c.args.self.now.semaphore c.down.new.seat) c.in-Ok-None.field-0-is c.in-Ok-None.ensures.call) refl
