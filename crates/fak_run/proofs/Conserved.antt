-- What the ledgers of all processors and the whole histories conserve.
use Rattle.fak_run.proofs.Common.{RowOf, Ledger, Made, named, after_made, IsMade, waiting, notes, Histories, Gathered, begun_names, asleep, lines, lines_of, ◌≡◌, ℕ, zero, suc, ◌+◌, ◌≤◌, List, [], ◌∷◌, length, refl, ap, sym, ◌∙◌, arith, sum_by, length-map, sum_by-append, sum_by_push, contents, debit_weight, credit_weight, put_of, got_of, ScriptOf, NoteOf, Process, queue_weighs, nothing_left, puts_weigh, gots_weigh_one, common_steps}
use Rattle.fak_run.proofs.Sums.{sum_by-ones, sum_by_nothing, sum_by_plus}

pub length-begun : (i : ℕ) (programs : List ℕ) → length (begun_names i programs) ≡ length programs
length-begun i [] = refl
length-begun i (p ∷ ps) = omega (arith, length-begun (suc i) ps)

module _ {script : ScriptOf} {seats : ℕ} {h : Histories} {l : Ledger} (g : Gathered script seats h l) where
  started : length l.begun ≡ length script.start
  started = sym (length-map l.begun named) ∙ (ap length g.begun ∙ length-begun 0 script.start)

  -- by counts only: the last value of busy that each processor observed is 0
  pub ready_is_empty : contents h.ready ≡ []
  ready_is_empty = grind (arith, common_steps, put_of, got_of, puts_weigh, gots_weigh_one, credit_weight, debit_weight, sum_by-ones, nothing_left, started)

  -- a process that is put into a wait queue is got from it, or sleeps at the end
  pub asleep_weighs : (f : Process → ℕ) (k : ℕ) → k ≤ length script.semaphores → waiting (put_of f) k l ≡ waiting (got_of f) k l + sum_by f (asleep h.waits k)
  asleep_weighs f zero le = refl
  asleep_weighs f (suc k) le =
      let before = asleep_weighs f k (omega arith) in
      let put = g.waits k (omega arith) (put_of f) in
      let got = g.waits k (omega arith) (got_of f) in
      let weighs = queue_weighs script.slots f (h.waits k) (g.waits_legal k (omega arith)) in
      omega (arith, before, put, got, weighs, sum_by-append f (asleep h.waits k) (contents (h.waits k)))

  -- each process that was started or spawned is in a row or sleeps, once; steps change it
  pub conserved : (f : Process → ℕ) → sum_by (λ (r : RowOf). f r.process) l.rows + sum_by f (asleep h.waits (length script.semaphores)) + sum_by (λ (m : Made). f m.before) l.made
      ≡ sum_by f l.begun + sum_by f l.born + sum_by (λ (m : Made). f (after_made m)) l.made
  conserved f =
      let all = g.balanced.processes f in
      let put = g.ready (put_of f) in
      let got = g.ready (got_of f) in
      let weighs = queue_weighs script.slots f h.ready g.ready_legal in
      let none = ap (sum_by f) ready_is_empty in
      omega (arith, all, put, got, weighs, none, asleep_weighs f (length script.semaphores) (omega arith))

  -- if each step adds e to f
  pub grown : (f : Process → ℕ) (e : Made → ℕ) → ((m : Made) → IsMade script m → f (after_made m) ≡ f m.before + e m)
      → sum_by (λ (r : RowOf). f r.process) l.rows + sum_by f (asleep h.waits (length script.semaphores)) ≡ sum_by f l.begun + sum_by f l.born + sum_by e l.made
  grown f e each = omega (arith, conserved f, sum_by_plus (IsMade script) (λ (m : Made). f m.before) e (λ (m : Made). f (after_made m)) each l.made g.balanced.made)

  -- a weight that is 0 for a process without steps
  pub fresh : (f : Process → ℕ) → ((p : Process) → length p.journal ≡ 0 → f p ≡ 0) → (sum_by f l.begun ≡ 0) × (sum_by f l.born ≡ 0)
  fresh f none = grind (arith, common_steps, sum_by_nothing, length)

  -- each line occurs once, in a row or with a process that sleeps
  pub lines_are : (w : NoteOf → ℕ) → lines w l.rows + lines_of w (asleep h.waits (length script.semaphores)) ≡ notes w l
  lines_are w =
      let f : Process → ℕ = λ (p : Process). sum_by w p.journal in
      let none = fresh (λ (p : Process). sum_by w p.journal) (λ p e. none_in p.journal e) in
      let all = grown (λ (p : Process). sum_by w p.journal) (λ (m : Made). w m.note) (λ m is. sum_by_push w m.before.journal m.note) in
      omega (arith, all, none.0, none.1)
    where
      none_in : (notes : List NoteOf) → length notes ≡ 0 → sum_by w notes ≡ 0
      none_in notes e = grind (arith, common_steps, notes, length, sum_by)
