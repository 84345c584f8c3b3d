use Rattle.fak_files.proofs.HoldLaws.{hold_reads}
use Rattle.fak_files.proofs.laws.the_fields_of_a_hold_are_those_of_its_take.Goals as goal

pub returns : goal.returns
returns c = hold_reads
