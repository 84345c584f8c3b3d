use Rattle.std.proofs.Common.{arith}
use Rattle.fak_callers.proofs.progress.ends_by_the_seats_of_its_cell.Goals as goal

pub returns : goal.returns
returns g c = record {
  rounds = λ size schedule rounds s k z holds fair long. c.a_stopped_seat_holds_up_its_cell_alone.ensures size schedule rounds s k z holds fair (omega (arith, long));
  one_cell = λ schedule rounds s k holds fair long. c.a_stopped_seat_holds_up_its_cell_alone.ensures 1 schedule rounds s k (omega arith) holds fair (omega (arith, long));
}
