use Rattle.std.proofs.Common.{rules, IsTrue, subst}
use Rattle.fak_model.specs.Seats.{IsWhole}
use Rattle.fak_sem.specs.Semaphores.{SemId, seats_of}
use Rattle.fak_sem_tests.proofs.steps.close.Goals as goal

pub close-requires-clause-whole : goal.close-requires-clause-whole
close-requires-clause-whole g c =
    let all : IsTrue c.is_whole.result = search (rules, c.if-not-is_whole.false) in
    subst (λ (o : SemId). IsWhole (seats_of o) c.args.tally.names) c.requires (c.is_whole.ensures.whole.0 all)
