use Rattle.fak_model.proofs.Common.{◌<◌, ◌-◌, length, arith}
use Rattle.fak_model.proofs.CheckerPast.{stage_found}
use Rattle.fak_model.proofs.checker.look_back.stage_of.Goals as goal

pub returns-then-m-seat : goal.returns-then-m-seat
returns-then-m-seat c =
    let within : c.loop-i.i - 1 < length c.args.past.now = omega arith in
    stage_found c.args.past.now c.loop-i.i (c.loop-i.i - 1) c.args.seat c.loop-i.puts_before c.loop-i.gots_before _ c.stage_after.result (omega arith) within c.if-m-seat.true c.loop-i.invariant.stays c.loop-i.invariant.puts_are c.loop-i.invariant.gots_are (rw (← c.puts_by-puts_before.ensures, ← c.gots_by-gots_before.ensures) c.stage_after.ensures)
