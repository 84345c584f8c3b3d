use Rattle.fak_files.proofs.HoldReads.{alone}
use Rattle.fak_files.proofs.laws.a_writer_is_alone.Goals as goal

pub returns : goal.returns
returns c = alone
