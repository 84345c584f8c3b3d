use Rattle.std.specs.Prelude.{IsOkAnd}
use Rattle.std.proofs.iter.Serving.{serving}
use Rattle.std.proofs.lemmas.Grind.{common_steps}
use Rattle.fak_kernel.proofs.Common.{ProcessorOf, HasBegun, ◌≡◌, ℕ, ◌+◌, vec_len, get_or, arith, subst, Result, Ok, Err, IfOk, into_iter_len, into_iter_items}
use Rattle.fak_kernel.proofs.Indexing.{first_of, rest_of}
use Rattle.fak_kernel.proofs.run_threads.threads.fn.run_all_threads.scope.Goals as goal

-- what is known of a thread that has begun
begun_kept : {H E : Type 0} {P Q : H → Type 0} (r : Result H E) → IfOk r P → IsOkAnd r Q → (h : H) × P h × Q h
begun_kept (Ok h) p q = (h, p, q)
begun_kept (Err e) p q = absurd q

pub spawn_with-begun-requires-clause-runs : goal.spawn_with-begun-requires-clause-runs
spawn_with-begun-requires-clause-runs g c κs within =
    let was = c.loop-seats.invariant in
    let step = c.in-Some.ensures.steps in
    let Begun : ℕ → ProcessorOf → Type 0 = λ (k : ℕ) (p : ProcessorOf). HasBegun g.K.Run.script c.captures.lent.now.objects.now c.captures.lent.now.plan.now.processors (vec_len c.loop-seats.handles + k) p in
    let first = first_of Begun (into_iter_items c.loop-seats.seats-iterator) (into_iter_items c.next.new.self) c.in-Some.seats (into_iter_len c.loop-seats.seats-iterator) (into_iter_len c.next.new.self) step.0 step.1 was.3 in
    let at : vec_len c.loop-seats.handles + 0 ≡ c.len-number.result = omega (arith, c.len-number.ensures) in
    let begun : HasBegun g.K.Run.script c.captures.lent.now.objects.now c.captures.lent.now.plan.now.processors c.len-number.result c.in-Some.seats = subst (λ (n : ℕ). HasBegun g.K.Run.script c.captures.lent.now.objects.now c.captures.lent.now.plan.now.processors n c.in-Some.seats) at first in
    grind serving

pub loop-seats-preserved : goal.loop-seats-preserved
loop-seats-preserved g c =
    let was = c.loop-seats.invariant in
    let step = c.in-Some.ensures.steps in
    let Begun : ℕ → ProcessorOf → Type 0 = λ (k : ℕ) (p : ProcessorOf). HasBegun g.K.Run.script c.captures.lent.now.objects.now c.captures.lent.now.plan.now.processors (vec_len c.loop-seats.handles + k) p in
    let kept = begun_kept c.spawn_with-begun.result c.spawn_with-begun.ensures.ok c.in_default-keep.ensures.kept in
    let more : vec_len c.keep.new.handles ≡ vec_len c.loop-seats.handles + 1 = grind (arith, common_steps) in
    let values = c.len-number.ensures in (
      omega (arith, was.0, step.1, more),
      (λ k d below. let h = was.1 k d in grind (arith, common_steps)),
      (λ k d below. let h = was.2 k d in grind (arith, common_steps)),
      λ k d low.
          let next : vec_len c.loop-seats.handles + (k + 1) ≡ vec_len c.keep.new.handles + k = omega (arith, more) in
          let rest = rest_of Begun (into_iter_items c.loop-seats.seats-iterator) (into_iter_items c.next.new.self) c.in-Some.seats (into_iter_len c.loop-seats.seats-iterator) (into_iter_len c.next.new.self) step.0 step.1 was.3 k d low in
          subst (λ (n : ℕ). HasBegun g.K.Run.script c.captures.lent.now.objects.now c.captures.lent.now.plan.now.processors n (get_or (into_iter_items c.next.new.self) k d)) next rest,
    )
