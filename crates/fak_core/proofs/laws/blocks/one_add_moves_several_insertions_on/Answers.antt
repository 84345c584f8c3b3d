use Rattle.fak_core.proofs.InsertionBlocks.{backs, draws, ends}
use Rattle.fak_core.proofs.laws.blocks.one_add_moves_several_insertions_on.Goals as goal

pub returns : goal.returns
returns g c = record { backs = backs; draws = draws; ends = ends }
