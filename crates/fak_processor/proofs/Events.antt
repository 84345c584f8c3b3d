-- Each kind of event of a turn keeps what balances.
use Rattle.fak_processor.proofs.Common.{child_of, next_step, RowOf, MovesNoItem, ◌≡◌, ℕ, ◌+◌, ◌<◌, ◌==◌, Bool, true, false, cond, List, [], ◌∷◌, ◌++◌, length, refl, ap, sym, ◌∙◌, subst, arith, None, sum_by, All, nat_tests, sum_by-append, All-nil, All-cons, sum_below, debit_weight, credit_weight, up_amount, release_amount, put_of, got_of, close_of, closed_of, refusal_of, other_amount, Kind, CreditKind, Debit, Credit, cond_here, cond_else, kinds_in, kinds_out, ScriptOf, StepOf, down, up, spawn, shutdown, NoteOf, downed, upped, spawned, no_birth, no_slot, shut_down, Process, child_count, after_note, FitsScript, Ledger, Made, Balanced, IsMade, FitsRow, nothing, not_before, its_down, before_down, sum_none, child, downs_of, ups_of, shuts_of, no_births_of, no_slots_of, sum_at, common_steps}
use Rattle.fak_processor.specs.Events.{made_of, IsPlain, fills, takes, puts, halts, steps, passes, parks, adds, wakes, spawns, lacks_birth, lacks_slot, ends, waits_refused, shuts, closed, refused_claim}
use Rattle.fak_processor.proofs.Moving.{quiet_empty, idle_closed}
use Rattle.fak_text.specs.Journal.{births_of}

-- no wait queue
pub none_waits : (n : ℕ) → sum_below (λ (s : ℕ). 0) n ≡ 0
none_waits n = sum_none (λ (s : ℕ). 0) n (λ s. refl)

-- only one wait queue
pub waiting_at : (w : Kind Process → ℕ) (kinds : List (Kind Process)) (s n : ℕ) → s < n → sum_below (λ t. sum_by w (cond (s == t) kinds [])) n ≡ sum_by w kinds
waiting_at w kinds s n below =
    sum_at (λ t. sum_by w (cond (s == t) kinds [])) s n below (λ t d. ap (sum_by w) (cond_else s t kinds [] (λ e. d (sym e)))) ∙ ap (sum_by w) (cond_here s kinds [])

-- what is in hand may be told otherwise, as long as it weighs as much
pub in_other_hands : {script : ScriptOf} {n : ℕ} {before after before' after' : List Process} {l : Ledger} → Balanced script n before after l
    → ((f : Process → ℕ) → sum_by f after' + sum_by f before ≡ sum_by f before' + sum_by f after) → Balanced script n before' after' l
in_other_hands b weighs = grind (arith, common_steps, shutdown)

-- who holds more processes still holds them
pub balanced-beside : {script : ScriptOf} {n : ℕ} {before after : List Process} {l : Ledger} (others : List Process) → Balanced script n before after l → Balanced script n (before ++ others) (after ++ others) l
balanced-beside {before = before} {after = after} others b = in_other_hands b (λ f. omega (arith, sum_by-append f before others, sum_by-append f after others))

-- ---- what refused calls weigh, refused at the test or at the add

record ClosedWeighs (T : Type 0) (late : Bool) : Type 0 where
  pub idle : MovesNoItem {T = T} (closed late)
  pub closes : sum_by close_of (closed {A = T} late) ≡ 0
  pub closeds : sum_by closed_of (closed {A = T} late) ≡ 1

closed_weighs : {T : Type 0} (late : Bool) → ClosedWeighs T late
closed_weighs late = grind (arith, common_steps, idle_closed)

record RefusedClaimWeighs (late : Bool) : Type 0 where
  pub ups : sum_by up_amount (refused_claim late) ≡ 0
  pub releases : sum_by release_amount (refused_claim late) ≡ 0
  pub refusals : sum_by refusal_of (refused_claim late) ≡ 1
  pub others : sum_by other_amount (refused_claim late) ≡ 0

refused_claim_weighs : (late : Bool) → RefusedClaimWeighs late
refused_claim_weighs late = grind (arith, common_steps)

-- a note that counts at semaphores, if anywhere
record CountsNowhereElse (step : StepOf) (note : NoteOf) : Type 0 where
  pub childless : (name : List ℕ) → child name step note ≡ []
  pub births : births_of note ≡ 0
  pub no_births : no_births_of note ≡ 0
  pub no_slots : no_slots_of note ≡ 0
  pub shuts : shuts_of note ≡ 0

module _ (script : ScriptOf) (n : ℕ) where
  -- nothing was done
  pub quiet : Balanced script n [] [] nothing
  quiet = record {
    processes = λ f. omega arith;
    slots = λ g. omega arith;
    children = λ g. refl;
    new = omega arith;
    births = record { ups = omega arith; releases = refl; refusals = refl; ones = refl };
    busy = record { credits = omega (arith, none_waits n); debits = omega (arith, none_waits n) };
    semaphores = record { downs = λ s below. omega (arith, none_waits n); upped = λ s below. refl; parked = λ s below. refl };
    shutdown = record { shuts = refl; halts = refl; no_stuck = refl };
    made = All-nil (IsMade script);
    rows = All-nil (FitsRow script);
  }

  one_made : (m : Made) → IsMade script m → All (IsMade script) (m ∷ [])
  one_made m is = All-cons (IsMade script) m [] is (All-nil (IsMade script))

  one_row : (r : RowOf) → FitsRow script r → All (FitsRow script) (r ∷ [])
  one_row r fits = All-cons (FitsRow script) r [] fits (All-nil (FitsRow script))

  -- what only the free queue saw, and who was started with no line yet
  pub by_free : {after : List Process} (kinds : List (Kind ℕ)) (first : List ℕ) (begun : List Process) → ((g : ℕ → ℕ) → sum_by (put_of g) kinds + sum_by (λ p. g p.slot) begun ≡ sum_by (got_of g) kinds + sum_by g first)
      → ((f : Process → ℕ) → sum_by f begun ≡ sum_by f after) → sum_by (λ p. length p.journal) begun ≡ 0 → Balanced script n [] after (record nothing { free = kinds; first = first; begun = begun })
  by_free kinds first begun slots hand new = grind (arith, common_steps, none_waits, quiet, shutdown)

  -- what only the ready queue saw
  pub by_ready : {before after : List Process} (kinds : List (Kind Process)) → ((f : Process → ℕ) → sum_by (put_of f) kinds + sum_by f after ≡ sum_by (got_of f) kinds + sum_by f before)
      → sum_by close_of kinds ≡ 0 → sum_by closed_of kinds ≡ 0 → Balanced script n before after (record nothing { ready = kinds })
  by_ready kinds weighs closes closeds = grind (arith, common_steps, none_waits, quiet, shutdown, shuts, closes, halts, closeds)

  -- a first slot; a process is taken, and put
  pub keeps_fills : (k slot : ℕ) → Balanced script n [] [] (fills k slot)
  keeps_fills k slot = by_free (kinds_in k slot) (slot ∷ []) [] (λ g. omega arith) (λ f. refl) refl

  pub keeps_takes : (k : ℕ) (p : Process) → Balanced script n [] (p ∷ []) (takes k p)
  keeps_takes k p = by_ready (kinds_out k p) (λ f. omega arith) refl refl

  pub keeps_puts : (k : ℕ) (p : Process) → Balanced script n (p ∷ []) [] (puts k p)
  keeps_puts k p = by_ready (kinds_in k p) (λ f. omega arith) refl refl

  -- the ready queue is shut
  pub keeps_halts : (late : Bool) (p : Process) → FitsScript script p → Balanced script n (p ∷ []) [] (halts late p)
  keeps_halts late p fits = grind (arith, common_steps, closed_weighs, none_waits, quiet, shutdown, shuts, halts, one_row)

  -- a step of which only the counts of semaphores hear
  by_credits : {p : Process} {step : StepOf} {note : NoteOf} (credits : ℕ → List CreditKind) → IsMade script (made_of p step note) → CountsNowhereElse step note
      → ((s : ℕ) → downs_of s note ≡ sum_by debit_weight (credits s)) → ((s : ℕ) → ups_of s note ≡ sum_by credit_weight (credits s))
      → Balanced script n (p ∷ []) (after_note p note ∷ []) (record nothing { credits = credits; made = made_of p step note ∷ [] })
  by_credits {p = p} credits is rest downs ups = grind (arith, common_steps, none_waits, quiet, sum_by, ups, upped, shutdown, shuts, halts, one_made)

  -- a plain step
  pub keeps_steps : (p : Process) (step : StepOf) (note : NoteOf) → IsMade script (made_of p step note) → IsPlain step note → Balanced script n (p ∷ []) (after_note p note ∷ []) (steps p step note)
  keeps_steps p step note is plain =
      by_credits (λ s. []) is (record { childless = plain.childless; births = plain.births; no_births = plain.no_births; no_slots = plain.no_slots; shuts = plain.shuts }) plain.downs plain.ups

  -- a down passes
  pub keeps_passes : (s : ℕ) (p : Process) → IsMade script (made_of p (down s) (downed s)) → Balanced script n (p ∷ []) (after_note p (downed s) ∷ []) (passes s p)
  keeps_passes s p is = by_credits (λ t. cond (s == t) (Debit ∷ []) []) is (record { childless = λ name. refl; births = refl; no_births = refl; no_slots = refl; shuts = refl }) (λ t. by_test (s == t)) (λ t. by_ups (s == t))
    where
      by_test : (b : Bool) → cond b 1 0 ≡ sum_by debit_weight (cond b (Debit ∷ []) [])
      by_test true = omega arith
      by_test false = omega arith

      by_ups : (b : Bool) → ◌≡◌ {A = ℕ} 0 (sum_by credit_weight (cond b (Debit ∷ []) []))
      by_ups true = omega arith
      by_ups false = omega arith

  -- a down parks the process
  pub keeps_parks : (s k : ℕ) (p : Process) → s < n → not_before script s p ≡ 0 → Balanced script n (p ∷ []) [] (parks s k p)
  keeps_parks s k p below stands = record {
    processes = λ f. omega (arith, waiting_at (put_of f) (kinds_in k p) s n below, waiting_at (got_of f) (kinds_in k p) s n below);
    slots = quiet.slots;
    children = quiet.children;
    new = quiet.new;
    births = quiet.births;
    busy = record { credits = omega (arith, waiting_at (got_of (λ (q : Process). 1)) (kinds_in k p) s n below); debits = omega (arith, waiting_at (put_of (λ (q : Process). 1)) (kinds_in k p) s n below) };
    semaphores = record { downs = λ t lt. omega (arith, by_test (s == t), waiting_at (got_of (before_down script t)) (kinds_in k p) s n below); upped = λ t lt. by_ups (s == t); parked = λ t lt. by_parked t (s == t) refl };
    shutdown = quiet.shutdown;
    made = quiet.made;
    rows = quiet.rows;
  }
    where
      by_test : (b : Bool) → 0 + sum_by (put_of (λ (q : Process). 1)) (cond b (kinds_in k p) []) ≡ sum_by debit_weight (cond b (Debit ∷ []) []) + 0
      by_test true = omega arith
      by_test false = omega arith

      by_ups : (b : Bool) → ◌≡◌ {A = ℕ} 0 (sum_by credit_weight (cond b (Debit ∷ []) []))
      by_ups true = omega arith
      by_ups false = omega arith

      by_parked : (t : ℕ) (b : Bool) → (s == t) ≡ b → sum_by (put_of (not_before script t)) (cond b (kinds_in k p) []) ≡ 0
      by_parked t true is = (let same : s ≡ t = grind (arith, nat_tests) in let stands_t : not_before script t p ≡ 0 = subst (λ u. not_before script u p ≡ 0) same stands in omega (arith, stands_t))
      by_parked t false is = omega arith

  -- an up wakes nobody
  pub keeps_adds : (s : ℕ) (p : Process) → IsMade script (made_of p (up s) (upped s)) → Balanced script n (p ∷ []) (after_note p (upped s) ∷ []) (adds s p)
  keeps_adds s p is = by_credits (λ t. cond (s == t) (Credit ∷ []) []) is (record { childless = λ name. refl; births = refl; no_births = refl; no_slots = refl; shuts = refl }) (λ t. by_test (s == t)) (λ t. by_ups (s == t))
    where
      by_test : (b : Bool) → ◌≡◌ {A = ℕ} 0 (sum_by debit_weight (cond b (Credit ∷ []) []))
      by_test true = omega arith
      by_test false = omega arith

      by_ups : (b : Bool) → cond b 1 0 ≡ sum_by credit_weight (cond b (Credit ∷ []) [])
      by_ups true = omega arith
      by_ups false = omega arith

  -- an up wakes q
  pub keeps_wakes : (s k : ℕ) (p q : Process) (t : ℕ) → s < n → IsMade script (made_of q (down t) (downed t)) → IsMade script (made_of p (up s) (upped s)) → Balanced script n (p ∷ []) (after_note p (upped s) ∷ after_note q (downed t) ∷ []) (wakes s k p q t)
  keeps_wakes s k p q t below q_is p_is = record {
    processes = λ f. omega (arith, waiting_at (put_of f) (kinds_out k q) s n below, waiting_at (got_of f) (kinds_out k q) s n below);
    slots = quiet.slots;
    children = λ g. refl;
    new = quiet.new;
    births = record { ups = omega arith; releases = omega arith; refusals = omega arith; ones = quiet.births.ones };
    busy = record { credits = omega (arith, waiting_at (got_of (λ (r : Process). 1)) (kinds_out k q) s n below); debits = omega (arith, waiting_at (put_of (λ (r : Process). 1)) (kinds_out k q) s n below) };
    semaphores = record {
      downs = λ u lt. omega (arith, by_test (s == u), waiting_at (got_of (before_down script u)) (kinds_out k q) s n below, ap (its_down u) q_is.stands);
      upped = λ u lt. by_ups (s == u);
      parked = λ u lt. by_parked u (s == u);
    };
    shutdown = record { shuts = omega arith; halts = quiet.shutdown.halts; no_stuck = quiet.shutdown.no_stuck };
    made = All-cons (IsMade script) (made_of q (down t) (downed t)) (made_of p (up s) (upped s) ∷ []) q_is (one_made _ p_is);
    rows = quiet.rows;
  }
    where
      by_test : (b : Bool) → sum_by (put_of (λ (r : Process). 1)) (cond b (kinds_out k q) []) ≡ sum_by debit_weight (cond b (Credit ∷ []) [])
      by_test true = omega arith
      by_test false = omega arith

      by_ups : (b : Bool) → 0 + 0 + cond b 1 0 ≡ sum_by credit_weight (cond b (Credit ∷ []) [])
      by_ups true = omega arith
      by_ups false = omega arith

      by_parked : (u : ℕ) (b : Bool) → sum_by (put_of (not_before script u)) (cond b (kinds_out k q) []) ≡ 0
      by_parked u true = omega arith
      by_parked u false = omega arith

  -- a spawn
  pub keeps_spawns : (k : ℕ) (p : Process) (program slot : ℕ) → IsMade script (made_of p (spawn program) (spawned (child_count p.journal))) → Balanced script n (p ∷ []) (after_note p (spawned (child_count p.journal)) ∷ child_of p program slot ∷ []) (spawns k p program slot)
  keeps_spawns k p program slot is = grind (arith, common_steps, none_waits, quiet, upped, shutdown, shuts, halts, one_made)

  -- a spawn that gets no birth
  pub keeps_lacks_birth : (late : Bool) (p : Process) (program : ℕ) → IsMade script (made_of p (spawn program) no_birth) → Balanced script n (p ∷ []) (after_note p no_birth ∷ []) (lacks_birth late p program)
  keeps_lacks_birth late p program is = grind (arith, common_steps, refused_claim_weighs, none_waits, quiet, upped, shutdown, shuts, halts, one_made)

  -- a spawn that gets no slot
  pub keeps_lacks_slot : (late : Bool) (p : Process) (program : ℕ) → IsMade script (made_of p (spawn program) no_slot) → Balanced script n (p ∷ []) (after_note p no_slot ∷ []) (lacks_slot late p program)
  keeps_lacks_slot late p program is = grind (arith, common_steps, quiet_empty, none_waits, quiet, upped, shutdown, shuts, halts, one_made)

  -- a process ends
  pub keeps_ends : (k : ℕ) (p : Process) → FitsScript script p → next_step script p ≡ None → Balanced script n (p ∷ []) [] (ends k p)
  keeps_ends k p fits over = grind (arith, common_steps, none_waits, quiet, shutdown, shuts, halts, one_row)

  -- a shutdown
  pub keeps_shuts : (p : Process) → IsMade script (made_of p shutdown shut_down) → Balanced script n (p ∷ []) (after_note p shut_down ∷ []) (shuts p)
  keeps_shuts p is = grind (arith, common_steps, none_waits, quiet, upped, shutdown, shuts, halts, one_made)

  -- refused calls on a wait queue: kinds that put and get nothing
  pub keeps_waits_refused : (s : ℕ) (kinds : List (Kind Process)) → s < n → ((f : Process → ℕ) → (sum_by (put_of f) kinds ≡ 0) × (sum_by (got_of f) kinds ≡ 0)) → Balanced script n [] [] (waits_refused s kinds)
  keeps_waits_refused s kinds below none = record {
    processes = λ f. omega (arith, waiting_at (put_of f) kinds s n below, waiting_at (got_of f) kinds s n below, (none f).0, (none f).1);
    slots = quiet.slots;
    children = quiet.children;
    new = quiet.new;
    births = quiet.births;
    busy = record {
      credits = omega (arith, waiting_at (got_of (λ (q : Process). 1)) kinds s n below, (none (λ (q : Process). 1)).1);
      debits = omega (arith, waiting_at (put_of (λ (q : Process). 1)) kinds s n below, (none (λ (q : Process). 1)).0);
    };
    semaphores = record {
      downs = λ t lt. omega (arith, by_test (s == t), waiting_at (got_of (before_down script t)) kinds s n below, (none (before_down script t)).1);
      upped = quiet.semaphores.upped;
      parked = λ t lt. by_parked t (s == t);
    };
    shutdown = quiet.shutdown;
    made = quiet.made;
    rows = quiet.rows;
  }
    where
      by_test : (b : Bool) → sum_by (put_of (λ (q : Process). 1)) (cond b kinds []) ≡ 0
      by_test true = (none (λ (q : Process). 1)).0
      by_test false = refl

      by_parked : (t : ℕ) (b : Bool) → sum_by (put_of (not_before script t)) (cond b kinds []) ≡ 0
      by_parked t true = (none (not_before script t)).0
      by_parked t false = refl
