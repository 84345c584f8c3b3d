use Rattle.fak_kernel.proofs.Common.{◌≡◌, take}
use Rattle.fak_kernel.proofs.ending.closing.read_entries.Given as goal

abbrev pub invariant-loop-i : goal.invariant-loop-i
invariant-loop-i l = l.entries.items ≡ take l.i l.rest
