use Rattle.fak_kernel.proofs.Common.{ids_of, ids_of_tallies, ◌≡◌, [], into_iter_items, AreClosed, AreClosing}
use Rattle.fak_kernel.proofs.ending.closing.close_each.Given as goal

abbrev pub invariant-loop-semaphore : goal.invariant-loop-semaphore
invariant-loop-semaphore g l = record {
  ids : ids_of_tallies l.rest.rest.items ≡ ids_of (into_iter_items l.semaphore-iterator);
  closing : AreClosing g.K.Run.script (ids_of (into_iter_items l.semaphore-iterator)) l.rest.rest.items l.fn.tallies.items l.asleep.items;
  last : into_iter_items l.semaphore-iterator ≡ [] → AreClosed g.K.Run.script l.fn.tallies.items l.asleep.items;
}
