use Rattle.std.proofs.Common.{arith, ap, sym, ◌∙◌, true≢false, length}
use Rattle.fak_callers.proofs.sleepers.an_item_a_free_cell_and_a_close_keep_awake.Goals as goal

pub returns : goal.returns
returns g c = record {
  item = λ key s shown n all some sleeps. let waits = c.nobody_sleeps_beside_work_in_a_running_queue.ensures.receiver key s shown n all sleeps in let none = ap length waits.0 in absurd (omega (arith, none, some));
  cell = λ key s shown n all some sleeps. let waits = c.nobody_sleeps_beside_work_in_a_running_queue.ensures.sender key s shown n all sleeps in let full = waits.0 in absurd (omega (arith, full, some));
  receiver = λ key s shown n all shut sleeps. let waits = c.nobody_sleeps_beside_work_in_a_running_queue.ensures.receiver key s shown n all sleeps in true≢false (sym shut ∙ waits.1);
  sender = λ key s shown n all shut sleeps. let waits = c.nobody_sleeps_beside_work_in_a_running_queue.ensures.sender key s shown n all sleeps in true≢false (sym shut ∙ waits.1);
}
