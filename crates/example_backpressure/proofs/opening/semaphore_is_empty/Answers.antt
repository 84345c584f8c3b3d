use Rattle.std.proofs.Common.{ℕ, ap, rules, subst, sym, ◌∙◌}
use Rattle.fak_model.specs.Seats.{IsWhole}
use Rattle.fak_queue.specs.Queues.{size_of}
use Rattle.fak_sem.specs.Semaphores.{SemId, queue_part, queue_tally, seats_of}
use Rattle.example_backpressure.specs.declared.channel.Buffer.{Buffer}
use Rattle.example_backpressure.proofs.Counting.{all_out}
use Rattle.example_backpressure.proofs.opening.semaphore_is_empty.Goals as goal

pub close-requires-clause-whole : goal.close-requires-clause-whole
close-requires-clause-whole c =
    subst (λ (o : SemId). IsWhole (seats_of o) c.join-tally.result.names) c.join-tally.ensures.object (c.is_whole-whole.ensures.whole.0 (search (rules, c.if-not-whole.false)))

pub returns : goal.returns
returns c = λ yes.
    let tally = c.join-tally.result in
    all_out (queue_part c.args.a) (ap queue_tally c.of.ensures.tally) c.join-tally.ensures.joined.queue c.requires.apart (c.is_whole-whole.ensures.queue (search (rules, c.if-not-whole.false)))
    (λ (w : Buffer → ℕ). c.a_queue_weighs_what_was_put.ensures.weighs (size_of tally.object.queue) w tally.queue_seen c.is_whole-whole.ensures.lawful.1) (sym c.close.ensures.rest ∙ search (rules, c.next.ensures, c.is_none.ensures, yes))
