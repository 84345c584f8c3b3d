use Rattle.fak_core.proofs.DeletionBlocks.{backs_low, draws_out, ends_out}
use Rattle.fak_core.proofs.laws.blocks.one_add_moves_several_deletions_on.Goals as goal

pub returns : goal.returns
returns g c = record { backs = backs_low; draws = λ size st seats some R apart all. draws_out size some st seats R apart all; ends = ends_out }
