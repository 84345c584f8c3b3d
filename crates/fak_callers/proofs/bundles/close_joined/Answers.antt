use Rattle.std.proofs.Common.{ap, rules, subst, sym, ◌∙◌}
use Rattle.std.specs.Prelude.{IsTrue}
use Rattle.fak_model.specs.Calls.{ObjectId}
use Rattle.fak_model.specs.Seats.{IsWhole}
use Rattle.fak_queue.specs.Sums.{Balances}
use Rattle.fak_callers.proofs.bundles.close_joined.Goals as goal

pub close-requires-clause-whole : goal.close-requires-clause-whole
close-requires-clause-whole c =
    subst (λ (o : ObjectId). IsWhole o.seats c.args.tally.names) c.requires (c.is_whole.ensures.whole.0 (search (rules, c.if-not-is_whole.false)))

pub returns : goal.returns
returns c = λ seats joined all w.
    let whole = c.is_whole.ensures in
    let yes : IsTrue c.is_whole.result = search (rules, c.if-not-is_whole.false) in
    subst (λ left. Balances w seats left) (sym c.close.ensures.rest)
    (c.joined_seats_have_observed_one_history.ensures.balance c.args.queue.size seats c.args.tally joined (ap (λ (o : ObjectId). o.seats) c.requires ∙ all) (whole.whole.0 yes) (whole.mine yes) c.close.ensures.lawful w)
