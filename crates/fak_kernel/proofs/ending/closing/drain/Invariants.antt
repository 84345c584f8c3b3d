use Rattle.fak_kernel.proofs.Common.{◌≡◌, ◌++◌, length, All, IsSleeper}
use Rattle.fak_kernel.proofs.ending.closing.drain.Given as goal

abbrev pub invariant-loop-sleeper : goal.invariant-loop-sleeper
invariant-loop-sleeper g l = record {
  added : l.asleep.items ++ l.rest ≡ l.fn.asleep.items ++ l.fn.waiting;
  sleepers : All (IsSleeper g.K.Run.script) l.rest → All (IsSleeper g.K.Run.script) l.fn.waiting;
}

abbrev pub decreases-loop-sleeper : goal.decreases-loop-sleeper
decreases-loop-sleeper g l = length l.rest
