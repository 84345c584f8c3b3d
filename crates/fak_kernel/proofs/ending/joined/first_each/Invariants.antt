use Rattle.fak_kernel.proofs.Common.{◌≡◌, ◌++◌, map, into_iter_items, sem_tally_of}
use Rattle.fak_kernel.proofs.ending.joined.first_each.Given as goal

abbrev pub invariant-loop-seat : goal.invariant-loop-seat
invariant-loop-seat g l = l.tallies.items ++ map sem_tally_of (into_iter_items l.seat-iterator) ≡ map sem_tally_of l.fn.seats.items
