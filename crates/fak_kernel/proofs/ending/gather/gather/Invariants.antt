use Rattle.fak_kernel.proofs.Common.{ProcessorOf, IsLeftBy, AreGathered, AreOfOne, ◌≡◌, ℕ, ◌+◌, ◌<◌, ◌≤◌, get_or}
use Rattle.fak_kernel.proofs.ending.gather.gather.Given as goal

-- this many processors are joined, and the others are to come
abbrev pub invariant-loop-joined : goal.invariant-loop-joined
invariant-loop-joined g l = record {
  from : 1 ≤ l._joined;
  gathered : AreGathered g.K.Run.script l.objects l._joined l.all.tallies l.all.ended.items l.all.halted.items;
  len : l._joined + l.processors.rest.len ≡ l.count;
  left : (k : ℕ) (d : ProcessorOf) → k < l.processors.rest.len → IsLeftBy g.K.Run.script l.objects (l._joined + k) (get_or l.processors.rest.items k d);
  alone : l._joined ≡ 1 → (d : ProcessorOf) → AreOfOne (get_or l.fn.left.items 0 d) l.all.tallies l.all.ended.items l.all.halted.items;
}
