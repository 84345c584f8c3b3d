use Rattle.std.proofs.Common.{rules, IsTrue}
use Rattle.fak_files_tests.proofs.calls.one_thread.Goals as goal

pub close-rest-requires-clause-whole : goal.close-rest-requires-clause-whole
close-rest-requires-clause-whole g c =
    let all : IsTrue c.is_whole-2.result = search (rules, c.if-not-is_whole.false) in
    c.is_whole-2.ensures.whole.0 all
