use Rattle.std.proofs.Common.{arith, rules}
use Rattle.std.specs.Prelude.{IsTrue}
use Rattle.fak_queue.specs.Sums.{joined_first, joined_next}
use Rattle.fak_queue.proofs.Sums.{seats_balance, whole_over}
use Rattle.example_frames.specs.Frames.{is_number}
use Rattle.example_frames.proofs.machine.close.Goals as goal

pub close-requires-clause-whole : goal.close-requires-clause-whole
close-requires-clause-whole c =
    whole_over c.join-tally.result c.join-tally.ensures.object (c.is_whole-whole.ensures.whole.0 (search (rules, c.if-not-whole.false)))

pub returns : goal.returns
returns c n =
    let joined = joined_next (joined_first c.args.a c.of.ensures.tally) c.join-tally.ensures.joined in
    let whole = c.is_whole-whole.ensures in
    let yes : IsTrue c.is_whole-whole.result = search (rules, c.if-not-whole.false) in
    let balance = seats_balance (is_number n) joined c.join-tally.ensures.object c.requires.two (whole.whole.0 yes) (whole.mine yes) c.close.ensures.lawful c.close.ensures.rest in
    omega (arith, balance, c.requires.put.0 n, c.requires.put.1 n)
