use Rattle.std.proofs.Common.{arith, ap, sym, ◌∙◌, true≢false, length}
use Rattle.fak_callers.proofs.sleeper_seats.an_item_a_free_cell_and_a_close_keep_seats_awake.Goals as goal

pub returns : goal.returns
returns g c = record {
  item = λ key s shown seats all n low some sleeps. let waits = c.no_seat_sleeps_beside_work.ensures.receiver key s shown seats all n low sleeps in let none = ap length waits.0 in absurd (omega (arith, none, some));
  cell = λ key s shown seats all n low some sleeps. let waits = c.no_seat_sleeps_beside_work.ensures.sender key s shown seats all n low sleeps in let full = waits.0 in absurd (omega (arith, full, some));
  receiver = λ key s shown seats all n low shut sleeps. let waits = c.no_seat_sleeps_beside_work.ensures.receiver key s shown seats all n low sleeps in true≢false (sym shut ∙ waits.1);
  sender = λ key s shown seats all n low shut sleeps. let waits = c.no_seat_sleeps_beside_work.ensures.sender key s shown seats all n low sleeps in true≢false (sym shut ∙ waits.1);
}
