use Rattle.fak_queue.proofs.SeatsSeen.{seen_here, undealt_here}
use Rattle.fak_queue.proofs.laws.sleepers.the_table_has_what_callers_see_of_a_seat.Goals as goal

pub returns-clause-seat : goal.returns-clause-seat
returns-clause-seat g c = λ key s table name left p me id f knows at. seen_here key s table name left p me id f knows at

pub returns-clause-undealt : goal.returns-clause-undealt
returns-clause-undealt g c = λ key s table stint next n me id u low high at. undealt_here key s table stint next n me id u low high at
