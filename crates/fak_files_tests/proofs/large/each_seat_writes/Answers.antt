use Rattle.std.proofs.Common.{rules, IsTrue}
use Rattle.fak_files_tests.proofs.large.each_seat_writes.Goals as goal

pub last_file-requires-clause-tally : goal.last_file-requires-clause-tally
last_file-requires-clause-tally g c =
    let all : IsTrue c.is_whole-2.result = search (rules, c.if-not-is_whole.false) in
    (c.loop-before.invariant.1, c.is_whole-2.ensures.whole.0 all)
