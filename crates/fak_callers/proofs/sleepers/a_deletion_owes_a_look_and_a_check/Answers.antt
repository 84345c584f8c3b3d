use Rattle.std.proofs.Common.{ap}
use Rattle.fak_channel_core.specs.SleeperMoves.{Account}
use Rattle.fak_queue.specs.Queues.{kinds_out}
use Rattle.fak_callers.proofs.sleepers.a_deletion_owes_a_look_and_a_check.Goals as goal

pub returns : goal.returns
returns g c = record {
  look = λ seats size ticket x notes old new within makes. ap (λ (a : Account). a.sender.looks) (c.a_call_owes_by_its_marks.ensures seats size notes (kinds_out ticket x) old new within makes);
  check = λ seats size ticket x notes old new within makes. ap (λ (a : Account). a.checks) (c.a_call_owes_by_its_marks.ensures seats size notes (kinds_out ticket x) old new within makes);
}
