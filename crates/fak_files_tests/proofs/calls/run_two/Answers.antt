use Rattle.std.proofs.Common.{refl}
use Rattle.fak_files_tests.proofs.calls.run_two.Goals as goal

pub close-requires-clause-whole : goal.close-requires-clause-whole
close-requires-clause-whole g c = c.if-not-is_whole.ensures.whole.0 refl
