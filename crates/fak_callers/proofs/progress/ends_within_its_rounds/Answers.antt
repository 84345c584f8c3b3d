use Rattle.std.proofs.Common.{arith}
use Rattle.fak_callers.proofs.progress.ends_within_its_rounds.Goals as goal

pub returns : goal.returns
returns g c = record {
  rounds = λ size seats schedule rounds s z idle fair long. c.every_open_call_ends.ensures size seats schedule rounds s z idle fair (omega (arith, long));
  one_cell = λ seats schedule rounds s idle fair long. c.every_open_call_ends.ensures 1 seats schedule rounds s (omega arith) idle fair (omega (arith, long));
}
