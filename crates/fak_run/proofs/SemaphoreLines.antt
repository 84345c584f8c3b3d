-- The downs, ups and sleepers of each semaphore.
use Rattle.fak_run.proofs.Common.{next_step, Outcome, Stuck, Histories, Gathered, asleep, ◌≡◌, ℕ, zero, suc, ◌+◌, ◌<◌, ◌≤◌, ◌==◌, nat_lt, Bool, true, false, cond, min, List, [], ◌∷◌, length, refl, ap, arith, inl, inr, Option, slice_index, sum_by, nat_tests, sum_by-append, sum_by-cons, contents, debit_weight, credit_weight, put_of, got_of, same_or_not, ScriptOf, StepOf, Process, Ledger, notes, downs_of, ups_of, other_down, not_before, its_down, before_down, waiting, stuck_of, stuck_at, queue_weighs, Kind, common_steps}
use Rattle.fak_run.proofs.Sums.{sum_by-ones}

-- a process before a down of t is before a down of s exactly if t is s
one_down : (s t : ℕ) (o : Option StepOf) → other_down t o ≡ 0 → other_down s o ≡ cond (t == s) 0 1
one_down s t o e = grind (arith, common_steps, other_down, nat_tests)

-- whether a process that sleeps at t is stuck before a down of s
stuck_there : (script : ScriptOf) (s t : ℕ) (p : Process) → not_before script t p ≡ 0 → stuck_at script s Stuck p ≡ cond (t == s) 1 0
stuck_there script s t p e = let o = one_down s t (next_step script p) e in grind (arith, nat_tests)

-- the processes that sleep at t
stuck_in : (script : ScriptOf) (s t : ℕ) (ps : List Process) → sum_by (not_before script t) ps ≡ 0 → sum_by (stuck_at script s Stuck) ps ≡ cond (t == s) (length ps) 0
stuck_in script s t [] e = grind (arith, nat_tests)
stuck_in script s t (p ∷ ps) e =
    let none : not_before script t p ≡ 0 = omega (arith, sum_by-cons (not_before script t) p ps, e) in
    let rest : sum_by (not_before script t) ps ≡ 0 = omega (arith, sum_by-cons (not_before script t) p ps, e) in
    let here = stuck_there script s t p none in
    let others = stuck_in script s t ps rest in
    let parts = sum_by-cons (stuck_at script s Stuck) p ps in
    by_test (t == s) refl here others parts
  where
    by_test : (c : Bool) → (t == s) ≡ c → stuck_at script s Stuck p ≡ cond (t == s) 1 0 → sum_by (stuck_at script s Stuck) ps ≡ cond (t == s) (length ps) 0
        → sum_by (stuck_at script s Stuck) (p ∷ ps) ≡ stuck_at script s Stuck p + sum_by (stuck_at script s Stuck) ps → sum_by (stuck_at script s Stuck) (p ∷ ps) ≡ cond (t == s) (length (p ∷ ps)) 0
    by_test true is a b c = rw is (let a' : stuck_at script s Stuck p ≡ 1 = rw is at a in let b' : sum_by (stuck_at script s Stuck) ps ≡ length ps = rw is at b in omega (arith, a', b', c))
    by_test false is a b c = rw is (let a' : stuck_at script s Stuck p ≡ 0 = rw is at a in let b' : sum_by (stuck_at script s Stuck) ps ≡ 0 = rw is at b in omega (arith, a', b', c))

-- a process that was got, and is before a down of t
its_own : (s t : ℕ) (o : Option StepOf) → other_down t o ≡ 0 → its_down s o ≡ cond (t == s) 1 0
its_own s t o e = grind (arith, common_steps, other_down, its_down, nat_tests)

got_there : (script : ScriptOf) (s t : ℕ) (κ : Kind Process) → got_of (not_before script t) κ ≡ 0 → got_of (before_down script s) κ ≡ cond (t == s) (got_of (λ (p : Process). 1) κ) 0
got_there script s t κ e = grind (arith, common_steps, got_of, not_before, before_down, its_own, next_step)

woken_in : (script : ScriptOf) (s t : ℕ) (kinds : List (Kind Process)) → sum_by (got_of (not_before script t)) kinds ≡ 0
    → sum_by (got_of (before_down script s)) kinds ≡ cond (t == s) (sum_by (got_of (λ (p : Process). 1)) kinds) 0
woken_in script s t [] e = elim (t == s) as (λ b. ◌≡◌ {A = ℕ} 0 (cond b 0 0)) [ true ↦ refl | false ↦ refl ]
woken_in script s t (κ ∷ kinds) e =
    let none : got_of (not_before script t) κ ≡ 0 = omega (arith, sum_by-cons (got_of (not_before script t)) κ kinds, e) in
    let rest : sum_by (got_of (not_before script t)) kinds ≡ 0 = omega (arith, sum_by-cons (got_of (not_before script t)) κ kinds, e) in
    by_test (t == s) refl (got_there script s t κ none) (woken_in script s t kinds rest)
  where
    by_test : (c : Bool) → (t == s) ≡ c → got_of (before_down script s) κ ≡ cond (t == s) (got_of (λ (p : Process). 1) κ) 0 → sum_by (got_of (before_down script s)) kinds ≡ cond (t == s) (sum_by (got_of (λ (p : Process). 1)) kinds) 0
        → sum_by (got_of (before_down script s)) (κ ∷ kinds) ≡ cond (t == s) (sum_by (got_of (λ (p : Process). 1)) (κ ∷ kinds)) 0
    by_test true is a b = rw is (let a' : got_of (before_down script s) κ ≡ got_of (λ (p : Process). 1) κ = rw is at a in let b' : sum_by (got_of (before_down script s)) kinds ≡ sum_by (got_of (λ (p : Process). 1)) kinds = rw is at b in
        omega (arith, a', b', sum_by-cons (got_of (before_down script s)) κ kinds, sum_by-cons (got_of (λ (p : Process). 1)) κ kinds))
    by_test false is a b = rw is (let a' : got_of (before_down script s) κ ≡ 0 = rw is at a in let b' : sum_by (got_of (before_down script s)) kinds ≡ 0 = rw is at b in
        omega (arith, a', b', sum_by-cons (got_of (before_down script s)) κ kinds))

-- rows that are not stuck
pub none_stuck : (script : ScriptOf) (s : ℕ) (outcome : Outcome) (p : Process) → stuck_of outcome ≡ 0 → stuck_at script s outcome p ≡ 0
none_stuck script s outcome p e = grind (arith, common_steps, stuck_of, stuck_at)

module _ {script : ScriptOf} {seats : ℕ} {h : Histories} {l : Ledger} (g : Gathered script seats h l) where
  -- the processes that sleep in wait queue t are before a down of t
  parked_there : (t : ℕ) → t < length script.semaphores → sum_by (not_before script t) (contents (h.waits t)) ≡ 0
  parked_there t below =
      let put = g.waits t below (put_of (not_before script t)) in
      let weighs = queue_weighs script.slots (not_before script t) (h.waits t) (g.waits_legal t below) in
      omega (arith, put, weighs, g.balanced.semaphores.parked t below)

  pub stuck_below : (s k : ℕ) → k ≤ length script.semaphores → s < length script.semaphores → sum_by (stuck_at script s Stuck) (asleep h.waits k) ≡ cond (nat_lt s k) (length (contents (h.waits s))) 0
  stuck_below s zero le below = grind (arith, nat_tests)
  stuck_below s (suc k) le below =
      let before = stuck_below s k (omega arith) below in
      let here = stuck_in script s k (contents (h.waits k)) (parked_there k (omega arith)) in
      let parts = sum_by-append (stuck_at script s Stuck) (asleep h.waits k) (contents (h.waits k)) in
      elim (same_or_not k s) [
        | inl is ↦ (let same : length (contents (h.waits k)) ≡ length (contents (h.waits s)) = ap (λ t. length (contents (h.waits t))) is in grind (arith, nat_tests))
        | inr other ↦ grind (arith, nat_tests)
      ]

  -- the processes that were woken from wait queue t were before a down of t
  woken_there : (t : ℕ) → t < length script.semaphores → sum_by (got_of (not_before script t)) (l.waits t) ≡ 0
  woken_there t below =
      let put = g.waits t below (put_of (not_before script t)) in
      let got = g.waits t below (got_of (not_before script t)) in
      let weighs = queue_weighs script.slots (not_before script t) (h.waits t) (g.waits_legal t below) in
      omega (arith, put, got, weighs, g.balanced.semaphores.parked t below)

  -- so the woken processes before a down of s were woken from wait queue s
  woken_at : (s k : ℕ) → k ≤ length script.semaphores → s < length script.semaphores → waiting (got_of (before_down script s)) k l ≡ cond (nat_lt s k) (sum_by (got_of (λ (p : Process). 1)) (l.waits s)) 0
  woken_at s zero le below = grind (arith, nat_tests)
  woken_at s (suc k) le below =
      let before = woken_at s k (omega arith) below in
      let here = woken_in script s k (l.waits k) (woken_there k (omega arith)) in
      elim (same_or_not k s) [
        | inl is ↦ (let same : sum_by (got_of (λ (p : Process). 1)) (l.waits k) ≡ sum_by (got_of (λ (p : Process). 1)) (l.waits s) = ap (λ t. sum_by (got_of (λ (p : Process). 1)) (l.waits t)) is in grind (arith, nat_tests))
        | inr other ↦ grind (arith, nat_tests)
      ]

  -- the downs of a semaphore, done or waited for, against the units that it had
  pub granted : (s : ℕ) → s < length script.semaphores → notes (downs_of s) l ≡ min (notes (downs_of s) l + length (contents (h.waits s))) (slice_index script.semaphores s + notes (ups_of s) l)
  granted s below =
      let put = g.waits s below (put_of (λ (p : Process). 1)) in
      let got = g.waits s below (got_of (λ (p : Process). 1)) in
      let weighs = queue_weighs script.slots (λ (p : Process). 1) (h.waits s) (g.waits_legal s below) in
      let ones = sum_by-ones (contents (h.waits s)) in
      let debited = g.credits s below debit_weight in
      let credited = g.credits s below credit_weight in
      let test : nat_lt s (length script.semaphores) ≡ true = grind (arith, nat_tests) in
      let all = woken_at s (length script.semaphores) (omega arith) below in
      let woken : waiting (got_of (before_down script s)) (length script.semaphores) l ≡ sum_by (got_of (λ (p : Process). 1)) (l.waits s) = rw test at all in
      omega (arith, woken, put, got, weighs, ones, debited, credited, (g.settled s below).left, g.balanced.semaphores.downs s below, g.balanced.semaphores.upped s below)
