use Rattle.std.proofs.Common.{rules, IsTrue, subst}
use Rattle.fak_model.specs.Seats.{IsWhole}
use Rattle.fak_sem.specs.Semaphores.{SemId, seats_of}
use Rattle.soak.proofs.semaphores.close.Goals as goal

pub close-requires-clause-whole : goal.close-requires-clause-whole
close-requires-clause-whole c =
    let all : IsTrue c.is_whole.result = search (rules, c.if-not-is_whole.false) in
    subst (λ (o : SemId). IsWhole (seats_of o) c.args.tally.names) c.requires (c.is_whole.ensures.whole.0 all)
