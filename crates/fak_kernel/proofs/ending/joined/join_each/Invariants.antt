use Rattle.fak_kernel.proofs.Common.{ids_of, ids_of_seats, JoinEach, ids_of_tallies, ◌≡◌, List, ◌++◌, drop, SemTallyInfo, Process}
use Rattle.fak_kernel.proofs.ending.joined.join_each.Given as goal

-- whatever joins those that are left, joins all
abbrev pub invariant-loop-semaphore : goal.invariant-loop-semaphore
invariant-loop-semaphore g l = record {
  tallies : ids_of_tallies l.tallies.rest.items ≡ ids_of (drop l.semaphore-index l.semaphores);
  seats : ids_of_seats l.seats.rest.items ≡ ids_of (drop l.semaphore-index l.semaphores);
  whole : (more : List (SemTallyInfo Process)) → JoinEach (drop l.semaphore-index l.semaphores) l.tallies.rest.items l.seats.rest.items more → JoinEach l.semaphores l.fn.tallies.items l.fn.seats.items (l.joined.items ++ more);
}
