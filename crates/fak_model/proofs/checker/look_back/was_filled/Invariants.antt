use Rattle.fak_model.proofs.Common.{Fill, Has, reverse, take}
use Rattle.fak_model.proofs.checker.look_back.was_filled.Given as goal

abbrev pub invariant-loop-i : goal.invariant-loop-i
invariant-loop-i l = Has (Fill l.ticket) (reverse l.past) → Has (Fill l.ticket) (reverse (take l.i l.past))
