use Rattle.fak_model.proofs.Common.{Take, Has, reverse, take}
use Rattle.fak_model.proofs.checker.look_back.was_taken.Given as goal

abbrev pub invariant-loop-i : goal.invariant-loop-i
invariant-loop-i l = Has (Take l.ticket) (reverse l.past) → Has (Take l.ticket) (reverse (take l.i l.past))
