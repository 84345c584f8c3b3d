use Rattle.fak_core.proofs.Common.{arith, ints}
use Rattle.fak_core.proofs.InsertionBlocks.{tests_room, tests_full, tests_shut}
use Rattle.fak_core.proofs.laws.blocks.one_load_tests_several_insertions.Goals as goal

pub returns : goal.returns
returns g c = record {
  room = λ size st seats apart opn room. tests_room size st seats apart opn (grind (arith, ints));
  full = λ size st seats apart opn full. tests_full size st seats apart opn (grind (arith, ints));
  shut = tests_shut;
}
