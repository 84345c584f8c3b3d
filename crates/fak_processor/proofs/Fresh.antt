-- Processors with seats as they are opened: what they know, the lists that the list scheduler has if there is only one, and
-- what all are once the first has begun.
use Rattle.std.specs.List.{insert, remove}
use Rattle.fak_model.specs.Credit as credit
use Rattle.fak_model.specs.Room as room
use Rattle.fak_processor.proofs.Common.{AreLines, files_of, begun_names, ◌≤◌, slice_set, sym, subst, numbers_from, turn_over, ProcessorOf, IsReached, lists_of, Begins, free_entry, nothing, Owns, queue_kind, IsOnly, ObjectsOf, AreFor, AreOf, GoesTo, IsAlone, ids_of, ids_of_seats, bundle_of, Between, empty_lists, ◌≡◌, ℕ, zero, suc, ◌+◌, ◌-◌, ◌<◌, List, [], ◌∷◌, All, length, map, replicate, get_or, slice_index_or, refl, ap, ◌∙◌, arith, length-replicate, All-nil, All-cons, All-head, All-tail, ObjectId, seat_info, credit_rules, queue_rules, room_rules, entries_after, SemId, SemInfo, SemSeatInfo, credit_part, queue_part, ScriptOf, down, Process, Turning, IsOnlySem, semaphore_count, sleepers_of, no_seat, no_table, HasName, lines_none, FileEntry, common_steps, get_or-set_same}
use Rattle.fak_processor.specs.Opened.{AreSeated, fresh_processor, fresh_sem_at, fresh_all}
use Rattle.fak_processor.proofs.Events.{quiet}
use Rattle.fak_processor.proofs.Calls.{turning_more}
use Rattle.fak_processor.proofs.Looping.{keeps_name}
use Rattle.fak_processor.proofs.Dealing.{fresh_at, length-all}
use Rattle.fak_processor.proofs.Tallies.{owns_fresh}

-- ---- among any number of processors

fresh_credits : (stint name : ℕ) (ids : List SemId) (s : ℕ) → Owns credit_rules credit.kind_of (credit_part (get_or (map (fresh_sem_at stint name) ids) s no_seat)) []
fresh_credits stint name [] s = owns_fresh credit_rules credit.kind_of no_table 0 0
fresh_credits stint name (o ∷ ids) zero = owns_fresh credit_rules credit.kind_of o.credit name stint
fresh_credits stint name (o ∷ ids) (suc s) = fresh_credits stint name ids s

fresh_waits : (size stint name : ℕ) (ids : List SemId) (s : ℕ) → Owns (queue_rules size) queue_kind (queue_part (get_or (map (fresh_sem_at stint name) ids) s no_seat)) []
fresh_waits size stint name [] s = owns_fresh (queue_rules size) queue_kind no_table 0 0
fresh_waits size stint name (o ∷ ids) zero = owns_fresh (queue_rules size) queue_kind o.queue name stint
fresh_waits size stint name (o ∷ ids) (suc s) = fresh_waits size stint name ids s

fresh_ids : (stint name : ℕ) (ids : List SemId) → ids_of_seats (map (fresh_sem_at stint name) ids) ≡ ids
fresh_ids stint name [] = refl
fresh_ids stint name (o ∷ ids) = ap (λ l. o ∷ l) (fresh_ids stint name ids)

fresh_names : (stint name : ℕ) (ids : List SemId) (k : ℕ) (d : SemSeatInfo Process) → k < length (map (fresh_sem_at stint name) ids) → (get_or (map (fresh_sem_at stint name) ids) k d).name ≡ name
fresh_names stint name [] k d below = absurd (omega (arith, below))
fresh_names stint name (o ∷ ids) zero d below = refl
fresh_names stint name (o ∷ ids) (suc k) d below = fresh_names stint name ids k d (omega (arith, below))

module _ (o : ObjectsOf) (stint name : ℕ) where
  pub fresh_are : AreOf o (fresh_processor o stint name)
  fresh_are = grind (arith, common_steps, fresh_ids, ids_of, length-replicate, free_entry)

  pub fresh_name : HasName name (fresh_processor o stint name)
  fresh_name = record { ready = refl; free = refl; births = refl; busy = refl; semaphores = fresh_names stint name (ids_of o.semaphores); files = refl }

  pub fresh_turning : (script : ScriptOf) → Turning script (bundle_of no_seat (fresh_processor o stint name)) nothing []
  fresh_turning script = record {
    balanced = quiet script (length script.semaphores);
    ready = owns_fresh (queue_rules script.slots) queue_kind o.ready.object name stint;
    free = owns_fresh (queue_rules script.slots) queue_kind o.free.object name stint;
    births = owns_fresh (room_rules script.births) room.kind_of o.births.object name stint;
    busy = owns_fresh credit_rules credit.kind_of o.busy.object name stint;
    credits = λ s below. fresh_credits stint name (ids_of o.semaphores) s;
    waits = λ s below. fresh_waits script.slots stint name (ids_of o.semaphores) s;
  }

-- another processor than the first begins nothing
pub fresh_between : (script : ScriptOf) (o : ObjectsOf) (stint m : ℕ) → Between script o (suc m) (fresh_processor o stint (suc m))
fresh_between script o stint m = record {
  are = fresh_are o stint (suc m);
  is = fresh_name o stint (suc m);
  ledger = nothing;
  first = (refl, refl);
  turning = fresh_turning o stint (suc m) script;
  rows = λ f. omega arith;
  lines = lines_none o.files.entries o.files.object (suc m) stint;
}

-- ---- the only processor

only_fresh : {M : Type 0} (seat_of : M → ℕ) (o : ObjectId) (stint : ℕ) → o.seats ≡ 1 → IsOnly seat_of (seat_info o 0 stint [])
only_fresh {M} seat_of o stint one = record { one = one; name = refl; named = All-nil (λ (m : M). seat_of m < 1) }

sem_fresh : (stint : ℕ) (o : SemId) → o.credit.seats ≡ 1 → o.queue.seats ≡ 1 → IsOnlySem (fresh_sem_at stint 0 o)
sem_fresh stint o credits waits = grind (arith, common_steps, only_fresh)

sems_fresh : (stint : ℕ) (sems : List SemInfo) → All (λ (s : SemInfo). s.object.credit.seats ≡ 1) sems → All (λ (s : SemInfo). s.object.queue.seats ≡ 1) sems → All IsOnlySem (map (fresh_sem_at stint 0) (ids_of sems))
sems_fresh stint [] credits waits = All-nil IsOnlySem
sems_fresh stint (s ∷ sems) credits waits =
    let c : All (λ (s : SemInfo). s.object.credit.seats ≡ 1) sems = All-tail (λ (s : SemInfo). s.object.credit.seats ≡ 1) s sems credits in
    let w : All (λ (s : SemInfo). s.object.queue.seats ≡ 1) sems = All-tail (λ (s : SemInfo). s.object.queue.seats ≡ 1) s sems waits in
    let one : IsOnlySem (fresh_sem_at stint 0 s.object) = sem_fresh stint s.object (All-head (λ (s : SemInfo). s.object.credit.seats ≡ 1) s sems credits) (All-head (λ (s : SemInfo). s.object.queue.seats ≡ 1) s sems waits) in
    All-cons IsOnlySem (fresh_sem_at stint 0 s.object) (map (fresh_sem_at stint 0) (ids_of sems)) one (sems_fresh stint sems c w)

nobody_at : (stint : ℕ) (ids : List SemId) (n : ℕ) → slice_index_or (map sleepers_of (map (fresh_sem_at stint 0) ids)) n [] ≡ []
nobody_at stint [] n = refl
nobody_at stint (o ∷ ids) zero = refl
nobody_at stint (o ∷ ids) (suc n) = nobody_at stint ids n

counts_fresh : (stint : ℕ) (sems : List SemInfo) → map semaphore_count (map (fresh_sem_at stint 0) (ids_of sems)) ≡ map (λ (s : SemInfo). s.object.start) sems
counts_fresh stint [] = refl
counts_fresh stint (s ∷ sems) = let here : (s.object.start + 0) - 0 ≡ s.object.start = omega arith in ap (λ n. n ∷ map semaphore_count (map (fresh_sem_at stint 0) (ids_of sems))) here ∙ ap (λ l. s.object.start ∷ l) (counts_fresh stint sems)

sleepers_fresh : (stint : ℕ) (sems : List SemInfo) → map sleepers_of (map (fresh_sem_at stint 0) (ids_of sems)) ≡ map (λ _. []) (map (λ (s : SemInfo). s.object.start) sems)
sleepers_fresh stint [] = refl
sleepers_fresh stint (s ∷ sems) = ap (λ (l : List (List Process)). [] ∷ l) (sleepers_fresh stint sems)

pub entries_fresh : (from count : ℕ) → entries_after [] from count ≡ replicate count free_entry
entries_fresh from zero = refl
entries_fresh from (suc n) = ap (λ (l : List FileEntry). free_entry ∷ l) (entries_fresh (suc from) n)

module _ (script : ScriptOf) (o : ObjectsOf) (stint : ℕ) where
  fresh_alone : AreSeated 1 o → IsAlone script (fresh_processor o stint 0)
  fresh_alone one = grind (arith, common_steps, only_fresh, sems_fresh, down, nobody_at, ids_of)

  -- the only processor begins with the list scheduler's lists, except for the processes that are ready and the free slots
  pub fresh_goes : AreFor script o → AreSeated 1 o → GoesTo script (fresh_processor o stint 0) (empty_lists script)
  fresh_goes made one = grind (arith, common_steps, counts_fresh, sleepers_fresh, map, fresh_alone, entries_fresh)

-- ---- all processors, of which the first began

module _ {script : ScriptOf} where
  -- processor 0 between two turns, if it was new
  pub begun_between : (o : ObjectsOf) (stint : ℕ) (made : AreFor script o) {p : ProcessorOf} → AreOf o p → Begins script [] [] (numbers_from 0 script.slots) (begun_names 0 script.start) (fresh_processor o stint 0) p → Between script o 0 p
  begun_between o stint made {p} are b = record {
    are = are;
    is = keeps_name b.gains.names (fresh_name o stint 0);
    ledger = b.ledger;
    first = (b.begun_are, b.first_are);
    turning = turning_more b.ledger (fresh_turning o stint 0 script) (b.gains.adds no_seat) b.balanced;
    rows = λ f. omega (arith, b.gains.rows f);
    lines = subst (λ n. AreLines n (files_of b.ledger) p.files.seat) (sym made.files) (b.gains.lines [] (lines_none script.files o.files.object 0 stint));
  }

-- all processors, once the first has begun
pub all_between : (script : ScriptOf) (o : ObjectsOf) (stint n : ℕ) (items : List ProcessorOf) (p : ProcessorOf) → 1 ≤ n → items ≡ slice_set (fresh_all o stint 0 n) 0 p → Between script o 0 p
    → (i : ℕ) (d : ProcessorOf) → i < n → Between script o i (slice_index_or items i d)
all_between script o stint zero items p some is first i d low = absurd (omega (arith, low))
all_between script o stint (suc n) items p some is first zero d low = subst (Between script o 0) (sym (ap (λ l. slice_index_or l 0 d) is)) first
all_between script o stint (suc n) items p some is first (suc i) d low =
    let up : 1 + i ≡ suc i = omega arith in
    let at : slice_index_or items (suc i) d ≡ fresh_processor o stint (suc i) = ap (λ l. slice_index_or l (suc i) d) is ∙ (fresh_at o stint 1 n i d (omega (arith, low)) ∙ ap (fresh_processor o stint) up) in
    subst (Between script o (suc i)) (sym at) (fresh_between script o stint i)

pub fresh_length : (o : ObjectsOf) (stint n : ℕ) {items : List ProcessorOf} → items ≡ fresh_all o stint 0 n → length items ≡ n
fresh_length o stint n fresh = ap length fresh ∙ length-all o stint 0 n

-- the first was taken out, began, and was put in again
pub first_again : (items rest done : List ProcessorOf) (p : ProcessorOf) → 0 < length items → rest ≡ remove items 0 → done ≡ insert rest 0 p → done ≡ slice_set items 0 p
first_again [] rest done p some taken put = absurd (omega (arith, some))
first_again (x ∷ xs) rest done p some taken put = put ∙ ap (λ l. insert l 0 p) taken

module _ (o : ObjectsOf) (stint n : ℕ) {items : List ProcessorOf} {was : ProcessorOf} (some : 1 ≤ n) (fresh : items ≡ fresh_all o stint 0 n) (first : was ≡ get_or items 0 was) where
  first_fresh : was ≡ fresh_processor o stint 0
  first_fresh = first ∙ (ap (λ l. get_or l 0 was) fresh ∙ fresh_at o stint 0 n 0 was (omega (arith, some)))

  pub first_are : AreOf o was
  first_are = subst (AreOf o) (sym first_fresh) (fresh_are o stint 0)

module _ {script : ScriptOf} (o : ObjectsOf) (stint n : ℕ) {items done : List ProcessorOf} {was : ProcessorOf} (p : ProcessorOf) (made : AreFor script o) (some : 1 ≤ n) (fresh : items ≡ fresh_all o stint 0 n) (first : was ≡ get_or items 0 was) (set : done ≡ slice_set items 0 p) where
  pub done_between : AreOf o p → Begins script [] [] (numbers_from 0 script.slots) (begun_names 0 script.start) was p → (i : ℕ) (d : ProcessorOf) → i < n → Between script o i (slice_index_or done i d)
  done_between are b i d low =
      let begun = subst (λ q. Begins script [] [] (numbers_from 0 script.slots) (begun_names 0 script.start) q p) (first_fresh o stint n some fresh first) b in
      all_between script o stint n done p some (set ∙ ap (λ l. slice_set l 0 p) fresh) (begun_between o stint made are begun) i d low

  pub done_reached : n ≡ 1 → AreSeated n o → (GoesTo script was (empty_lists script) → IsReached script p (turn_over (lists_of script p))) → (d : ProcessorOf) → IsReached script (slice_index_or done 0 d) (turn_over (lists_of script (slice_index_or done 0 d)))
  done_reached one seated begun d = grind (arith, common_steps, empty_lists, first_fresh, fresh_goes, slice_index_or, get_or-set_same, fresh_length, turn_over, lists_of)
