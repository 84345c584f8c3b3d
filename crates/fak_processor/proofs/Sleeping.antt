-- A down or an up at one of the semaphores, as the processor that makes it has it.
use Rattle.fak_processor.proofs.Common.{◌≡◌, ℕ, ◌<◌, ◌∙◌, [], ◌∷◌, length, slice_set, slice_index_or, refl, Option, Some, None, MatchOption, SemInfo, SemSeatInfo, Downs, Ups, Debit, Credit, ScriptOf, down, Process, FitsScript, StandsAt, after_note, downed, nothing, ObjectsOf, ProcessorOf, AreFor, AreOf, IsAlone, IsOnlySem, AtPlace, lists_of, SleepsLast, CountFalls, WakesNobody, WakesFirst, Gains, GainsParked, GainsWoken, at_one}
use Rattle.fak_processor.proofs.OnlyCounts.{down_passes, down_parks, up_raises, up_rouses}
use Rattle.fak_processor.proofs.Places.{alike_after, only_at}
use Rattle.fak_processor.proofs.Gaining.{seat_there, same_there, gains_parked, gains_passed, gains_credited, gains_woken}
use Rattle.fak_processor.proofs.Machines.{sleeps_last, count_falls, wakes_nobody, wakes_first}

module _ {script : ScriptOf} {o : ObjectsOf} (p : ProcessorOf) (made : AreFor script o) (fits : AreOf o p) (at : ℕ) (low : at < length script.semaphores) {was : SemSeatInfo Process} (is : SemSeatInfo Process) {sem : SemInfo}
    (stood : was ≡ slice_index_or p.semaphores at was) (there : sem ≡ slice_index_or o.semaphores at sem) (same : is.object ≡ was.object) where
  pub are_after : AreOf o (record p { semaphores = slice_set p.semaphores at is })
  are_after = record {
    ready = fits.ready;
    ready_idle = fits.ready_idle;
    free = fits.free;
    free_idle = fits.free_idle;
    semaphores = alike_after (λ (s : SemSeatInfo Process). s.object) p.semaphores at was is stood same ∙ fits.semaphores;
    births = fits.births;
    busy = fits.busy;
    files = fits.files;
    files_free = fits.files_free;
    copy = fits.copy;
  }

  placed : (call : SemSeatInfo Process → SemSeatInfo Process → Type 0) → call was is → AtPlace at p.semaphores (slice_set p.semaphores at is) call
  placed call m = record { was = was; is = is; stood = stood; stands = refl; made = m }

  below : at < length p.semaphores
  below = seat_there p made fits low

  its : was.object ≡ sem.object
  its = same_there p made fits low stood there

  only : IsAlone script p → IsOnlySem was
  only alone = only_at IsOnlySem p.semaphores at was below stood alone.semaphores

  pub downs : {who : Process} (answer : Option Process) → Downs sem who was is answer
      → MatchOption answer (GainsParked script at who p (record p { semaphores = slice_set p.semaphores at is })) (λ _. Gains script p (record p { semaphores = slice_set p.semaphores at is }) (record nothing { credits = at_one at (Debit ∷ []) }))
  downs None d = gains_parked p made fits low (placed _ (sem, there, d))
  downs (Some x) d = gains_passed p made fits low (placed _ (sem, there, d))

  pub downs_alone : {who : Process} → StandsAt script who (down at) → IsAlone script p → (answer : Option Process) → Downs sem who was is answer
      → MatchOption answer (SleepsLast script (lists_of script p) at who (record p { semaphores = slice_set p.semaphores at is })) (λ _. CountFalls script (lists_of script p) at (record p { semaphores = slice_set p.semaphores at is }))
  downs_alone stands alone None d = sleeps_last p alone at below stands (placed _ (down_parks (only alone) its same d))
  downs_alone stands alone (Some x) d = count_falls p alone at below (placed _ (down_passes (only alone) its same d).1)

  pub raises : Ups sem was is None → Gains script p (record p { semaphores = slice_set p.semaphores at is }) (record nothing { credits = at_one at (Credit ∷ []) })
  raises u = gains_credited p made fits low (placed _ (sem, there, u))

  pub raises_alone : IsAlone script p → Ups sem was is None → WakesNobody script (lists_of script p) at (record p { semaphores = slice_set p.semaphores at is })
  raises_alone alone u = wakes_nobody p alone at below (placed _ (up_raises (only alone) its same u))

  pub wakes : {x woken : Process} → Ups sem was is (Some x) → (semaphore : ℕ) × StandsAt script x (down semaphore) × (woken ≡ after_note x (downed semaphore)) → FitsScript script x → GainsWoken script at woken p (record p { semaphores = slice_set p.semaphores at is })
  wakes u done fitting = gains_woken p made fits low (placed _ (sem, there, u)) done fitting

  pub wakes_alone : {x woken : Process} → IsAlone script p → Ups sem was is (Some x) → ((n : ℕ) → StandsAt script x (down n) → woken ≡ after_note x (downed n)) → WakesFirst script (lists_of script p) at woken (record p { semaphores = slice_set p.semaphores at is })
  wakes_alone {x} {woken} alone u roused = wakes_first p alone at below x woken (placed _ (up_rouses (only alone) its same u)) roused
