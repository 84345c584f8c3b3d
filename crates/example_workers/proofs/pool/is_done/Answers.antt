use Rattle.std.proofs.Common.{◌≡◌, [], rules, sym, ◌∙◌}
use Rattle.std.specs.Prelude.{IsTrue}
use Rattle.fak_model.specs.Queue.{contents}
use Rattle.fak_queue.proofs.Sums.{seats_balance, whole_over}
use Rattle.example_workers.specs.Counts.{leaps}
use Rattle.example_workers.proofs.pool.is_done.Goals as goal

pub close-requires-clause-whole : goal.close-requires-clause-whole
close-requires-clause-whole c =
    whole_over c.args.tally c.requires (c.is_whole-whole.ensures.whole.0 (search (rules, c.if-not-whole.false)))

pub returns : goal.returns
returns c = λ none seats joined all.
    let left : [] ≡ contents c.args.tally.seen = sym (search (rules, c.next.ensures, c.is_none.ensures, none)) ∙ c.close.ensures.rest in
    let whole = c.is_whole-whole.ensures in
    let yes : IsTrue c.is_whole-whole.result = search (rules, c.if-not-whole.false) in
    seats_balance leaps joined c.requires all (whole.whole.0 yes) (whole.mine yes) c.close.ensures.lawful left
