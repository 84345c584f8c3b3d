use Rattle.fak_files.proofs.HoldLaws.{no_other_set}
use Rattle.fak_files.proofs.laws.no_set_of_another_seat_lies_in_a_hold.Goals as goal

pub returns : goal.returns
returns c = no_other_set
