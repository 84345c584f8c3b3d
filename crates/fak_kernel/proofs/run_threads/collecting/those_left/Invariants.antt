use Rattle.fak_kernel.proofs.Common.{◌≡◌, ◌++◌, map, into_iter_items, as_left}
use Rattle.fak_kernel.proofs.run_threads.collecting.those_left.Given as goal

abbrev pub invariant-loop-returned : goal.invariant-loop-returned
invariant-loop-returned g l = map as_left l.left.items ++ into_iter_items l.returned-iterator ≡ l.fn.results.items
