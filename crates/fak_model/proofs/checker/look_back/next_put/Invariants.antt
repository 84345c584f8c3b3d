use Rattle.fak_model.proofs.Common.{◌≡◌, reverse, take, count, puts}
use Rattle.fak_model.proofs.checker.look_back.next_put.Given as goal

abbrev pub invariant-loop-i : goal.invariant-loop-i
invariant-loop-i l = count puts (reverse (take l.i l.past)) ≡ count puts (reverse (take l.from l.past))
