use Rattle.fak_files.proofs.HoldLaws.{reads_stay}
use Rattle.fak_files.proofs.laws.what_a_hold_reads_stays.Goals as goal

pub returns : goal.returns
returns c = reads_stay
