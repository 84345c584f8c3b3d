use Rattle.std.proofs.Common.{ℕ, rules, subst, sym, ◌∙◌}
use Rattle.fak_model.specs.Calls.{ObjectId}
use Rattle.fak_model.specs.Seats.{IsWhole}
use Rattle.example_backpressure.specs.declared.channel.Buffer.{Buffer}
use Rattle.example_backpressure.proofs.Counting.{all_out}
use Rattle.example_backpressure.proofs.opening.queue_is_empty.Goals as goal

pub close-requires-clause-whole : goal.close-requires-clause-whole
close-requires-clause-whole c =
    subst (λ (o : ObjectId). IsWhole o.seats c.join-tally.result.names) c.join-tally.ensures.object (c.is_whole-whole.ensures.whole.0 (search (rules, c.if-not-whole.false)))

pub returns : goal.returns
returns c = λ yes.
    let tally = c.join-tally.result in
    all_out c.args.a c.of.ensures.tally c.join-tally.ensures.joined c.requires.apart (c.is_whole-whole.ensures.mine (search (rules, c.if-not-whole.false)))
    (λ (w : Buffer → ℕ). c.a_queue_weighs_what_was_put.ensures.weighs c.args.queue.size w tally.seen c.close.ensures.lawful) (sym c.close.ensures.rest ∙ search (rules, c.next.ensures, c.is_none.ensures, yes))
