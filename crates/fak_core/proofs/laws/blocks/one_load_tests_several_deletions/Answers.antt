use Rattle.fak_core.proofs.Common.{arith, ints}
use Rattle.fak_core.proofs.DeletionBlocks.{tests_stock, tests_empty}
use Rattle.fak_core.proofs.laws.blocks.one_load_tests_several_deletions.Goals as goal

pub returns : goal.returns
returns g c = record {
  stock = λ size st seats apart some. tests_stock size st seats apart (grind (arith, ints));
  empty = λ size st seats apart none. tests_empty size st seats apart (grind (arith, ints));
}
