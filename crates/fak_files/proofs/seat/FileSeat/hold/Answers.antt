use Rattle.fak_files.proofs.Common.{reverse, holds_of, common_steps, arith}
use Rattle.fak_model.specs.Calls.{object_id}
use Rattle.fak_files.proofs.SeatCalls.{hold_marked}
use Rattle.fak_files.proofs.seat.FileSeat.hold.Goals as goal

pub returns-clause-marks : goal.returns-clause-marks
returns-clause-marks c = grind (arith, common_steps, holds_of, reverse, hold_marked, object_id)
