use Rattle.fak_model.proofs.Common.{count, puts, gots, stage, ◌≡◌, reverse, take}
use Rattle.fak_model.proofs.checker.look_back.stage_of.Given as goal

abbrev pub invariant-loop-i : goal.invariant-loop-i
invariant-loop-i l = record {
  puts_are : l.puts_before ≡ count puts (reverse (take l.i l.past));
  gots_are : l.gots_before ≡ count gots (reverse (take l.i l.past));
  stays : stage (reverse l.past) l.seat ≡ stage (reverse (take l.i l.past)) l.seat;
}
