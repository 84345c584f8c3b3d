-- What calls on one semaphore add to a processor's seats.
use Rattle.fak_processor.proofs.Common.{RowOf, Ledger, nothing, ObjectsOf, ProcessorOf, AreFor, AreOf, AreLines, ◌≡◌, ℕ, ◌+◌, ◌<◌, ◌==◌, Bool, cond, List, [], ◌∷◌, ◌++◌, length, slice_index_or, refl, ap, sym, ◌∙◌, subst, arith, Some, None, sum_by, flat_map, length-map, All-get_or, CreditKind, Debit, Credit, kinds_not_in, kinds_not_out, kinds_in, kinds_out, SemInfo, SemSeatInfo, ScriptOf, down, Process, FitsScript, StandsAt, after_note, downed, files_of, Gains, GainsParked, GainsWoken, at_one, DownsAt, UpsAt, common_steps}
use Rattle.fak_processor.proofs.Calls.{grows_parks, grows_passes, grows_wakes, grows_adds}
use Rattle.fak_processor.proofs.Moving.{gains_semaphore}
use Rattle.fak_processor.proofs.Places.{alike_at}

-- the same marks and rows, told in another way
pub record Alike (a b : Ledger) : Type 0 where
  pub ready : a.ready ≡ b.ready
  pub free : a.free ≡ b.free
  pub births : a.births ≡ b.births
  pub busy : a.busy ≡ b.busy
  pub credits : (s : ℕ) → a.credits s ≡ b.credits s
  pub waits : (s : ℕ) → a.waits s ≡ b.waits s
  pub rows : a.rows ≡ b.rows
  pub lines : files_of a ≡ files_of b

pub gains_as : {script : ScriptOf} {p q : ProcessorOf} (a b : Ledger) → Gains script p q a → Alike a b → Gains script p q b
gains_as {script} {p} {q} a b g same = record {
  adds = λ d. let x = g.adds d in record {
    ready = rw (← same.ready) x.ready;
    free = rw (← same.free) x.free;
    births = rw (← same.births) x.births;
    busy = rw (← same.busy) x.busy;
    credits = λ s below. rw (← (same.credits s)) (x.credits s below);
    waits = λ s below. rw (← (same.waits s)) (x.waits s below);
  };
  rows = λ f. g.rows f ∙ ap (λ rs. rows_before f + sum_by f rs) same.rows;
  names = g.names;
  lines = λ before are. subst (λ ls. AreLines script.files (before ++ ls) q.files.seat) same.lines (g.lines before are);
}
  where
    rows_before : (RowOf → ℕ) → ℕ
    rows_before f = Rattle.fak_processor.specs.Moving.rows_weigh f p

abbrev none_of : (A : Type 0) → List A
none_of A = []

cond_none : {A : Type 0} (b : Bool) → cond b (none_of A) (none_of A) ≡ none_of A
cond_none b = grind (arith, common_steps, none_of)

size_at : {script : ScriptOf} {o : ObjectsOf} (made : AreFor script o) (at : ℕ) → at < length o.semaphores → (sem : SemInfo) → sem ≡ slice_index_or o.semaphores at sem → sem.size ≡ script.slots
size_at {script} {o} made at below sem is = subst (λ (s : SemInfo). s.size ≡ script.slots) (sym is) (All-get_or (λ (s : SemInfo). s.size ≡ script.slots) o.semaphores at sem below made.waits)

module _ {script : ScriptOf} {o : ObjectsOf} (p : ProcessorOf) (made : AreFor script o) (fits : AreOf o p) {at : ℕ} (low : at < length script.semaphores) where
  there : at < length o.semaphores
  there = omega (arith, low, made.semaphores)

  pub seat_there : at < length p.semaphores
  seat_there = grind (arith, common_steps, length, length-map, there)

  pub same_there : {seat : SemSeatInfo Process} {sem : SemInfo} → seat ≡ slice_index_or p.semaphores at seat → sem ≡ slice_index_or o.semaphores at sem → seat.object ≡ sem.object
  same_there {seat} {sem} = alike_at (λ (s : SemSeatInfo Process). s.object) (λ (s : SemInfo). s.object) p.semaphores o.semaphores at seat sem fits.semaphores seat_there

  one_only : {seats : List (SemSeatInfo Process)} (kinds : List CreditKind) → Gains script p (record p { semaphores = seats }) (record nothing { credits = at_one at kinds; waits = at_one at [] }) → Gains script p (record p { semaphores = seats }) (record nothing { credits = at_one at kinds })
  one_only kinds g = gains_as (record nothing { credits = at_one at kinds; waits = at_one at [] }) (record nothing { credits = at_one at kinds }) g (record { ready = refl; free = refl; births = refl; busy = refl; credits = λ s. refl; waits = λ s. cond_none (at == s); rows = refl; lines = refl })

  pub gains_parked : {seats : List (SemSeatInfo Process)} {who : Process} → DownsAt o.semaphores at who None p.semaphores seats → GainsParked script at who p (record p { semaphores = seats })
  gains_parked {seats} {who} d =
      let g = grows_parks d.made.2 in
      record {
        refused = g.1.0;
        ticket = g.1.1;
        gains = gains_semaphore p d.was d.is seats (Debit ∷ []) (flat_map kinds_not_in g.1.0 ++ kinds_in g.1.1 who) seat_there (size_at made at there d.made.0 d.made.1) d.stood d.stands g.0 g.1.2;
      }

  pub gains_passed : {seats : List (SemSeatInfo Process)} {who passed : Process} → DownsAt o.semaphores at who (Some passed) p.semaphores seats → Gains script p (record p { semaphores = seats }) (record nothing { credits = at_one at (Debit ∷ []) })
  gains_passed {seats} d =
      let g = grows_passes d.made.2 in
      one_only (Debit ∷ []) (gains_semaphore p d.was d.is seats (Debit ∷ []) [] seat_there (size_at made at there d.made.0 d.made.1) d.stood d.stands g.0 g.1)

  pub gains_credited : {seats : List (SemSeatInfo Process)} → UpsAt o.semaphores at None p.semaphores seats → Gains script p (record p { semaphores = seats }) (record nothing { credits = at_one at (Credit ∷ []) })
  gains_credited {seats} u =
      let g = grows_adds u.made.2 in
      one_only (Credit ∷ []) (gains_semaphore p u.was u.is seats (Credit ∷ []) [] seat_there (size_at made at there u.made.0 u.made.1) u.stood u.stands g.0 g.1)

  pub gains_woken : {seats : List (SemSeatInfo Process)} {sleeper woken : Process} → UpsAt o.semaphores at (Some sleeper) p.semaphores seats → (semaphore : ℕ) × StandsAt script sleeper (down semaphore) × (woken ≡ after_note sleeper (downed semaphore)) → FitsScript script sleeper
      → GainsWoken script at woken p (record p { semaphores = seats })
  gains_woken {seats} {sleeper} u done fitting =
      let g = grows_wakes u.made.2 in
      record {
        sleeper = sleeper;
        semaphore = done.0;
        stands = done.1;
        fits = fitting;
        woken_is = done.2;
        refused = g.1.0;
        ticket = g.1.1;
        gains = gains_semaphore p u.was u.is seats (Credit ∷ []) (flat_map kinds_not_out g.1.0 ++ kinds_out g.1.1 sleeper) seat_there (size_at made at there u.made.0 u.made.1) u.stood u.stands g.0 g.1.2;
      }
