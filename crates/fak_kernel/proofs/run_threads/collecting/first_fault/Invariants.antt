use Rattle.fak_kernel.proofs.Common.{◌≡◌, drop, first_fault}
use Rattle.fak_kernel.proofs.run_threads.collecting.first_fault.Given as goal

abbrev pub invariant-loop-returned : goal.invariant-loop-returned
invariant-loop-returned g l = first_fault (drop l.returned-index l.results) ≡ first_fault l.results
