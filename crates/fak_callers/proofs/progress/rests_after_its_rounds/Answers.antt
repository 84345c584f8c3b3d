use Rattle.std.proofs.Common.{◌+◌, ◌*◌, arith}
use Rattle.std.specs.Prelude.{min}
use Rattle.fak_callers.proofs.progress.rests_after_its_rounds.Goals as goal

pub returns : goal.returns
returns g c = record {
  rounds = λ size seats schedule rounds s z idle fair only long. c.a_queue_comes_to_rest.ensures.rounds size seats schedule rounds z idle fair only (omega (arith, long)) s (omega arith);
  in_turn = λ size seats s schedule z idle. c.a_queue_comes_to_rest.ensures.in_turn size seats (3 * min size seats + 4) schedule z idle (omega arith) s (omega arith);
  one_cell = λ seats s schedule idle. c.a_queue_comes_to_rest.ensures.in_turn 1 seats 7 schedule (omega arith) idle (omega arith) s (omega arith);
}
