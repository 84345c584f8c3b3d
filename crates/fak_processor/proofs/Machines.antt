-- What the calls of the only processor are in the list scheduler.
use Rattle.fak_processor.proofs.Common.{◌≡◌, ℕ, ◌+◌, ◌-◌, ◌<◌, List, [], ◌∷◌, ◌++◌, All, length, map, slice_set, slice_index_or, refl, ap, sym, ◌∙◌, subst, arith, nat_lt, slice_index, nat_tests, SeatInfo, get_or-map, length-map, map-set, RoomMark, SemSeatInfo, ScriptOf, down, Process, StandsAt, after_note, downed, IsOnlySem, IsOnlyRoom, Passes, Parks, Raises, Rouses, Claims, FindsFull, GivesBack, semaphore_count, sleepers_of, ObjectsOf, ProcessorOf, AreFor, IsAlone, lists_of, GoesTo, AtPlace, IsBorn, HasNoBirth, WakesNobody, WakesFirst, SleepsLast, CountFalls, held_amount, common_steps}
use Rattle.std.proofs.lemmas.List.Elements.{All-set, All-head}
use Rattle.fak_run.specs.Contexts.{WaitAtTheirs}
use Rattle.fak_processor.proofs.Waiting.{AllAtTheirs-same, AllAtTheirs-push, AllAtTheirs-pop}
use Rattle.fak_processor.proofs.Places.{alike_after}

-- ---- births

module _ {script : ScriptOf} {o : ObjectsOf} (p : ProcessorOf) (alone : IsAlone script p) (made : AreFor script o) {b : SeatInfo RoomMark} where
  alone_births : IsOnlyRoom b → IsAlone script (record p { births = b })
  alone_births only = record { ready = alone.ready; free = alone.free; semaphores = alone.semaphores; asleep = alone.asleep; births = only; files = alone.files }

  pub is_born : Claims o.births.bound p.births b → IsBorn script (lists_of script p) (record p { births = b })
  is_born c = grind (arith, common_steps, held_amount, nat_tests, alone_births, lists_of)

  pub has_no_birth : FindsFull o.births.bound p.births b → HasNoBirth script (lists_of script p) (record p { births = b })
  has_no_birth c = grind (arith, common_steps, held_amount, nat_tests, alone_births, lists_of)

pub birth_given : {script : ScriptOf} (p : ProcessorOf) → IsAlone script p → {b : SeatInfo RoomMark} → GivesBack p.births b → GoesTo script (record p { births = b }) (record (lists_of script p) { births = held_amount p.births - 1 })
birth_given {script} p alone {b} g = grind (arith, common_steps, held_amount, lists_of)

-- ---- semaphores

module _ {script : ScriptOf} (p : ProcessorOf) (alone : IsAlone script p) (at : ℕ) (below : at < length p.semaphores) where
  sleepers_at : (was : SemSeatInfo Process) → was ≡ slice_index_or p.semaphores at was → slice_index_or (map sleepers_of p.semaphores) at [] ≡ sleepers_of was
  sleepers_at was is = get_or-map sleepers_of p.semaphores at was [] below ∙ ap sleepers_of (sym is)

  count_at : (was : SemSeatInfo Process) → was ≡ slice_index_or p.semaphores at was → slice_index (map semaphore_count p.semaphores) at ≡ semaphore_count was
  count_at was is = get_or-map semaphore_count p.semaphores at was 0 below ∙ ap semaphore_count (sym is)

  inside : at < length (map sleepers_of p.semaphores)
  inside = let n = length-map p.semaphores sleepers_of in omega (arith, n, below)

module _ {script : ScriptOf} (p : ProcessorOf) (alone : IsAlone script p) (at : ℕ) (below : at < length p.semaphores) {sems : List (SemSeatInfo Process)} where
  alone_sems : {call : SemSeatInfo Process → SemSeatInfo Process → Type 0} (a : AtPlace at p.semaphores sems call) → IsOnlySem a.is → WaitAtTheirs script (map sleepers_of (slice_set p.semaphores at a.is)) → IsAlone script (record p { semaphores = sems })
  alone_sems a only asleep = record {
    ready = alone.ready;
    free = alone.free;
    semaphores = subst (All IsOnlySem) (sym a.stands) (All-set IsOnlySem p.semaphores at a.is only alone.semaphores);
    asleep = subst (λ (l : List (SemSeatInfo Process)). WaitAtTheirs script (map sleepers_of l)) (sym a.stands) asleep;
    births = alone.births;
    files = alone.files;
  }

  counts_after : {call : SemSeatInfo Process → SemSeatInfo Process → Type 0} (a : AtPlace at p.semaphores sems call) (n : ℕ) → semaphore_count a.is ≡ n → map semaphore_count sems ≡ slice_set (map semaphore_count p.semaphores) at n
  counts_after a n is = ap (map semaphore_count) a.stands ∙ (map-set semaphore_count p.semaphores at a.is ∙ ap (slice_set (map semaphore_count p.semaphores) at) is)

  counts_same : {call : SemSeatInfo Process → SemSeatInfo Process → Type 0} (a : AtPlace at p.semaphores sems call) → semaphore_count a.is ≡ semaphore_count a.was → map semaphore_count sems ≡ map semaphore_count p.semaphores
  counts_same a same = ap (map semaphore_count) a.stands ∙ alike_after semaphore_count p.semaphores at a.was a.is a.stood same

  sleepers_after : {call : SemSeatInfo Process → SemSeatInfo Process → Type 0} (a : AtPlace at p.semaphores sems call) (l : List Process) → sleepers_of a.is ≡ l → map sleepers_of sems ≡ slice_set (map sleepers_of p.semaphores) at l
  sleepers_after a l is = ap (map sleepers_of) a.stands ∙ (map-set sleepers_of p.semaphores at a.is ∙ ap (slice_set (map sleepers_of p.semaphores) at) is)

  sleepers_same : {call : SemSeatInfo Process → SemSeatInfo Process → Type 0} (a : AtPlace at p.semaphores sems call) → sleepers_of a.is ≡ sleepers_of a.was → map sleepers_of sems ≡ map sleepers_of p.semaphores
  sleepers_same a same = ap (map sleepers_of) a.stands ∙ alike_after sleepers_of p.semaphores at a.was a.is a.stood same

  pub wakes_nobody : AtPlace at p.semaphores sems Raises → WakesNobody script (lists_of script p) at (record p { semaphores = sems })
  wakes_nobody a =
      let counts = counts_after a (slice_index (map semaphore_count p.semaphores) at + 1) (a.made.count ∙ ap (λ n. n + 1) (sym (count_at p alone at below a.was a.stood))) in
      let sleepers = sleepers_same a a.made.sleepers in
      record {
        nobody = sleepers_at p alone at below a.was a.stood ∙ a.made.none;
        goes = record {
          alone = alone_sems a a.made.only (AllAtTheirs-same (λ n q. StandsAt script q (down n)) sleepers_of p.semaphores at a.was a.is (inside p alone at below) a.stood alone.asleep a.made.sleepers);
          lists_are = λ i. record (lists_of script p) { counts = counts i; sleepers = sleepers i };
        };
      }

  pub wakes_first : (x woken : Process) → AtPlace at p.semaphores sems (Rouses x) → ((n : ℕ) → StandsAt script x (down n) → woken ≡ after_note x (downed n)) → WakesFirst script (lists_of script p) at woken (record p { semaphores = sems })
  wakes_first x woken a roused =
      let counts = counts_same a a.made.count in
      let sleepers = sleepers_after a (sleepers_of a.is) refl in
      let waits : slice_index_or (map sleepers_of p.semaphores) at [] ≡ x ∷ sleepers_of a.is = sleepers_at p alone at below a.was a.stood ∙ a.made.sleepers in
      let stands : StandsAt script x (down at) = All-head (λ q. StandsAt script q (down at)) x (sleepers_of a.is) (subst (All (λ q. StandsAt script q (down at))) waits (alone.asleep at)) in
      let rest = ap (Rattle.std.proofs.Common.drop 1) a.made.sleepers in
      record {
        first = x;
        others = sleepers_of a.is;
        waits = waits;
        woken_is = roused at stands;
        goes = record {
          alone = alone_sems a a.made.only (AllAtTheirs-pop (λ n q. StandsAt script q (down n)) sleepers_of p.semaphores at a.was a.is (inside p alone at below) a.stood alone.asleep (sym rest));
          lists_are = λ i. record (lists_of script p) { counts = counts i; sleepers = sleepers i };
        };
      }

  pub sleeps_last : {who : Process} → StandsAt script who (down at) → AtPlace at p.semaphores sems (Parks who) → SleepsLast script (lists_of script p) at who (record p { semaphores = sems })
  sleeps_last {who} stands a =
      let counts = counts_same a (a.made.count ∙ sym a.made.none) in
      let sleepers = sleepers_after a (slice_index_or (map sleepers_of p.semaphores) at [] ++ who ∷ []) (a.made.sleepers ∙ ap (λ l. l ++ who ∷ []) (sym (sleepers_at p alone at below a.was a.stood))) in
      let none : slice_index (map semaphore_count p.semaphores) at ≡ 0 = count_at p alone at below a.was a.stood ∙ a.made.none in
      record {
        none = ap (nat_lt 0) none;
        goes = record {
          alone = alone_sems a a.made.only (AllAtTheirs-push (λ n q. StandsAt script q (down n)) sleepers_of p.semaphores at a.was a.is (inside p alone at below) a.stood alone.asleep who a.made.sleepers stands);
          lists_are = λ i. record (lists_of script p) { counts = counts i; sleepers = sleepers i };
        };
      }

  pub count_falls : AtPlace at p.semaphores sems Passes → CountFalls script (lists_of script p) at (record p { semaphores = sems })
  count_falls a =
      let found : slice_index (map semaphore_count p.semaphores) at ≡ semaphore_count a.is + 1 = count_at p alone at below a.was a.stood ∙ a.made.count in
      let counts = counts_after a (slice_index (map semaphore_count p.semaphores) at - 1) (omega (arith, found)) in
      let sleepers = sleepers_same a a.made.sleepers in
      record {
        some = (let some : 0 < slice_index (map semaphore_count p.semaphores) at = omega (arith, found) in grind (arith, nat_tests));
        goes = record {
          alone = alone_sems a a.made.only (AllAtTheirs-same (λ n q. StandsAt script q (down n)) sleepers_of p.semaphores at a.was a.is (inside p alone at below) a.stood alone.asleep a.made.sleepers);
          lists_are = λ i. record (lists_of script p) { counts = counts i; sleepers = sleepers i };
        };
      }
