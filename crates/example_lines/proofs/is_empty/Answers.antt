use Rattle.std.proofs.Common.{◌≡◌, ℕ, [], rules, sym, ◌∙◌}
use Rattle.fak_queue.specs.Sums.{joined_first, joined_next}
use Rattle.fak_queue.proofs.Sums.{seats_balance, whole_over}
use Rattle.fak_model.specs.Queue.{contents}
use Rattle.example_lines.specs.declared.Line.{Line}
use Rattle.example_lines.specs.Lines.{one, bytes}
use Rattle.example_lines.proofs.is_empty.Goals as goal

pub close-requires-clause-whole : goal.close-requires-clause-whole
close-requires-clause-whole c =
    whole_over c.join-tally.result c.join-tally.ensures.object (c.is_whole-whole.ensures.whole.0 (search (rules, c.if-not-whole.false)))

pub returns : goal.returns
returns c = λ yes.
    let left : [] ≡ contents c.join-tally.result.seen = sym (search (rules, c.next.ensures, c.is_none.ensures, yes)) ∙ c.close.ensures.rest in
    let joined = joined_next (joined_next (joined_first c.args.a c.of.ensures.tally) c.join-two.ensures.joined) c.join-tally.ensures.joined in
    let whole = c.is_whole-whole.ensures in
    let balance = λ (w : Line → ℕ). seats_balance w joined c.join-tally.ensures.object c.requires.three (whole.whole.0 (search (rules, c.if-not-whole.false))) (whole.mine (search (rules, c.if-not-whole.false))) c.close.ensures.lawful left in
    (balance one, balance bytes)
