use Rattle.std.proofs.Common.{arith, ap, sym, ◌∙◌, true≢false, length}
use Rattle.fak_callers.proofs.channel_ends.an_item_a_free_cell_and_a_close_keep_ends_awake.Goals as goal

pub returns : goal.returns
returns g c = record {
  item = λ o key s shown ends all n below some sleeps is. let waits = c.no_end_sleeps_beside_work.ensures.receiver o key s shown ends all n below sleeps is in let none = ap length waits.0 in absurd (omega (arith, none, some));
  cell = λ o key s shown ends all n below some sleeps x is. let waits = c.no_end_sleeps_beside_work.ensures.sender o key s shown ends all n below sleeps x is in let full = waits.0 in absurd (omega (arith, full, some));
  close = λ o key s shown ends all n below shut sleeps is. let waits = c.no_end_sleeps_beside_work.ensures.receiver o key s shown ends all n below sleeps is in true≢false (sym shut ∙ waits.1);
}
