use Rattle.fak_kernel.proofs.Common.{◌≡◌, ℕ, ◌+◌, ◌<◌, vec_items, vec_len, get_or, into_iter_len, into_iter_items, HasBegun}
use Rattle.fak_kernel.proofs.run_threads.threads.fn.run_all_threads.scope.Given as goal

-- the handles so far are those of the first processors, and the others are still to begin
abbrev pub invariant-loop-seats : goal.invariant-loop-seats
invariant-loop-seats g l =
    (vec_len l.handles + into_iter_len l.seats-iterator ≡ into_iter_len l.initial.seats-iterator)
    × ((k : ℕ) (d : _) → k < vec_len l.handles → (get_or (vec_items l.handles) k d).promise.lent.now ≡ l.lent)
    × ((k : ℕ) (d : _) → k < vec_len l.handles → (get_or (vec_items l.handles) k d).promise.number ≡ k)
    × ((k : ℕ) (d : _) → k < into_iter_len l.seats-iterator → HasBegun g.K.Run.script l.lent.objects.now l.lent.plan.now.processors (vec_len l.handles + k) (get_or (into_iter_items l.seats-iterator) k d))
