-- What processor 0 does before the threads start.
use Rattle.std.proofs.lemmas.List.{length-take-le, map-append}
use Rattle.fak_model.specs.Calls.{SeatInfo}
use Rattle.fak_processor.proofs.Common.{Balanced, NameAndProgram, joined, named, nothing, begun_names, Gains, GrowsAtLast, Moves, ◌≡◌, ℕ, zero, suc, ◌+◌, ◌-◌, ◌<◌, Bool, List, [], ◌∷◌, ◌++◌, length, map, take, drop, get_or, refl, ap, sym, ◌∙◌, subst, arith, Mark, kinds_in, kinds_out, ScriptOf, Process, new_process, Lists, begun_from, enter_ready, first_lists, numbers_from, turn_over, empty, fills, ObjectsOf, ProcessorOf, AreFor, GoesTo, HasNoSlot, IsAlone, IsReached, TakesFreeSlot, lists_of, Begins, FindsNoSlot, FindsSlot, StartsOne, begins, empty_lists, balanced-joined, common_steps}
use Rattle.fak_processor.proofs.Events.{by_free, keeps_fills, quiet}
use Rattle.fak_processor.proofs.Moving.{gains_free, gains_none, gains_then, idle_none, idle_then, quiet_empty}
use Rattle.fak_processor.proofs.Gaining.{gains_as}
use Rattle.fak_processor.proofs.Acting.{keeps_idle}
use Rattle.fak_run.proofs.Opening.{numbers_from-next}

-- ---- among any number of processors

module _ {script : ScriptOf} where
  -- a started process gets a slot
  keeps_begins : (n j i program slot : ℕ) → Balanced script n [] (new_process (i ∷ []) program slot ∷ []) (begins j (new_process (i ∷ []) program slot))
  keeps_begins n j i program slot = by_free script n (kinds_out j slot) [] (new_process (i ∷ []) program slot ∷ []) (λ g. omega arith) (λ f. refl) refl

  -- nothing was done yet
  pub begins_none : (p : ProcessorOf) → Begins script [] [] [] [] p p
  begins_none p = record { ledger = nothing; balanced = quiet script (length script.semaphores); gains = gains_none p; first_are = refl; begun_are = refl }

  -- one after the other
  pub begins_then : {before between after : List Process} {f g : List ℕ} {b c : List NameAndProgram} {p q r : ProcessorOf} → Begins script before between f b p q → Begins script between after g c q r → Begins script before after (f ++ g) (b ++ c) p r
  begins_then {before} {between} {after} x y = record {
    ledger = joined x.ledger y.ledger;
    balanced = balanced-joined script (length script.semaphores) before between after x.ledger y.ledger x.balanced y.balanced;
    gains = gains_then x.ledger y.ledger x.gains y.gains;
    first_are = λ i. x.first_are i ++ y.first_are i;
    begun_are = map-append named x.ledger.begun y.ledger.begun ∙ (λ i. x.begun_are i ++ y.begun_are i);
  }

  -- a first slot
  pub begins_filled : {o : ObjectsOf} (p : ProcessorOf) (made : AreFor script o) {slot : ℕ} {s : SeatInfo (Mark ℕ)} → GrowsAtLast o.free.size slot p.free s → Begins script [] [] (slot ∷ []) [] p (record p { free = s })
  begins_filled p made {slot} {s} g = let n = length script.semaphores in record {
    ledger = joined (record nothing { free = g.refused }) (fills g.ticket slot);
    balanced = balanced-joined script n [] [] [] (record nothing { free = g.refused }) (fills g.ticket slot) (keeps_idle n g.refused g.idle) (keeps_fills script n g.ticket slot);
    gains = gains_as (record nothing { free = g.refused ++ kinds_in g.ticket slot }) (joined (record nothing { free = g.refused }) (fills g.ticket slot)) (gains_free p (g.refused ++ kinds_in g.ticket slot) made.free g.grows)
        (record { ready = refl; free = refl; births = refl; busy = refl; credits = λ t. refl; waits = λ t. refl; rows = refl; lines = refl });
    first_are = refl;
    begun_are = refl;
  }

  -- the free queue is looked at
  pub no_slot_yet : (p : ProcessorOf) → FindsNoSlot script p p
  no_slot_yet p = record { refused = []; idle = idle_none; gains = gains_none p }

  pub no_slot_again : {p q r : ProcessorOf} → FindsNoSlot script p q → (late : Bool) × Gains script q r (record nothing { free = empty late }) → FindsNoSlot script p r
  no_slot_again x y = record {
    refused = x.refused ++ empty y.0;
    idle = idle_then x.idle (quiet_empty {T = ℕ} y.0).idle;
    gains = gains_then (record nothing { free = x.refused }) (record nothing { free = empty y.0 }) x.gains y.1;
  }

  pub slot_at_last : {p q r : ProcessorOf} {slot : ℕ} → FindsNoSlot script p q → (ticket : ℕ) × Gains script q r (record nothing { free = kinds_out ticket slot }) → FindsSlot script slot p r
  slot_at_last {slot = slot} x y = record {
    refused = x.refused;
    idle = x.idle;
    ticket = y.0;
    gains = gains_then (record nothing { free = x.refused }) (record nothing { free = kinds_out y.0 slot }) x.gains y.1;
  }

  -- what moved began nothing
  begins_moved : {before after : List Process} {p q : ProcessorOf} → Moves script before after p q → Begins script before after [] [] p q
  begins_moved m = record { ledger = m.ledger; balanced = m.balanced; gains = m.gains; first_are = m.begins.1; begun_are = ap (map named) m.begins.0 }

  -- a process with this name gets a slot and goes on
  pub begins_process : {p q r : ProcessorOf} {slot : ℕ} (i program : ℕ) (x : Process) → x ≡ new_process (i ∷ []) program slot → FindsSlot script slot p q → Moves script (x ∷ []) [] q r → Begins script [] [] [] ((i ∷ [], program) ∷ []) p r
  begins_process {p} {q} {r} {slot} i program x is found entered =
      let n = length script.semaphores in
      let started = new_process (i ∷ []) program slot in
      let got : Begins script [] (started ∷ []) [] ((i ∷ [], program) ∷ []) p q = record {
        ledger = joined (record nothing { free = found.refused }) (begins found.ticket started);
        balanced = balanced-joined script n [] [] (started ∷ []) (record nothing { free = found.refused }) (begins found.ticket started) (keeps_idle n found.refused found.idle) (keeps_begins n found.ticket i program slot);
        gains = gains_as (record nothing { free = found.refused ++ kinds_out found.ticket slot }) (joined (record nothing { free = found.refused }) (begins found.ticket started)) found.gains
            (record { ready = refl; free = refl; births = refl; busy = refl; credits = λ t. refl; waits = λ t. refl; rows = refl; lines = refl });
        first_are = refl;
        begun_are = refl;
      } in
      begins_then got (subst (λ (y : Process). Begins script (y ∷ []) [] [] [] q r) is (begins_moved entered))

-- ---- numbers and names

pub numbers_more : (a k : ℕ) → numbers_from a (k + 1) ≡ numbers_from a k ++ (a + k) ∷ []
numbers_more a zero = let e : a ≡ a + 0 = omega arith in ap (λ n. n ∷ []) e
numbers_more a (suc k) =
    let up : suc k + 1 ≡ suc (k + 1) = omega arith in
    let e : a + 1 + k ≡ a + suc k = omega arith in
    ap (numbers_from a) up ∙ ap (λ l. a ∷ l) (numbers_more (a + 1) k ∙ ap (λ n. numbers_from (a + 1) k ++ n ∷ []) e)

-- all numbers below this one, and itself
pub numbers_next : (n x : ℕ) → x ≡ n → numbers_from 0 n ++ x ∷ [] ≡ numbers_from 0 (n + 1)
numbers_next n x is = let e : x ≡ 0 + n = omega (arith, is) in ap (λ k. numbers_from 0 n ++ k ∷ []) e ∙ sym (numbers_more 0 n)

pub names_more : (a : ℕ) (xs : List ℕ) (x : ℕ) → begun_names a (xs ++ x ∷ []) ≡ begun_names a xs ++ ((a + length xs) ∷ [], x) ∷ []
names_more a [] x = let e : a ≡ a + 0 = omega arith in ap (λ n. (n ∷ [], x) ∷ []) e
names_more a (y ∷ xs) x = let e : suc a + length xs ≡ a + suc (length xs) = omega arith in ap (λ l. (a ∷ [], y) ∷ l) (names_more (suc a) xs x ∙ ap (λ n. begun_names (suc a) xs ++ (n ∷ [], x) ∷ []) e)

pub begun_more : (a : ℕ) (xs : List ℕ) (x : ℕ) → begun_from a (xs ++ x ∷ []) ≡ begun_from a xs ++ new_process ((a + length xs) ∷ []) x (a + length xs) ∷ []
begun_more a [] x = let e : a ≡ a + 0 = omega arith in ap (λ n. new_process (n ∷ []) x n ∷ []) e
begun_more a (y ∷ xs) x = let e : a + 1 + length xs ≡ a + suc (length xs) = omega arith in ap (λ l. new_process (a ∷ []) y a ∷ l) (begun_more (a + 1) xs x ∙ ap (λ n. begun_from (a + 1) xs ++ new_process (n ∷ []) x n ∷ []) e)

-- ---- the started processes, so far

take_next : {A : Type 0} (xs : List A) (n : ℕ) (d : A) → n < length xs → take (n + 1) xs ≡ take n xs ++ get_or xs n d ∷ []
take_next [] n d low = absurd (omega (arith, low))
take_next (x ∷ xs) zero d low = refl
take_next (x ∷ xs) (suc n) d low = let up : suc n + 1 ≡ suc (n + 1) = omega arith in ap (λ k. take k (x ∷ xs)) up ∙ ap (λ l. x ∷ l) (take_next xs n d (omega (arith, low)))

pub names_next : (xs : List ℕ) (i n d : ℕ) → n ≡ i → i < length xs → begun_names 0 (take i xs) ++ (n ∷ [], get_or xs i d) ∷ [] ≡ begun_names 0 (take (i + 1) xs)
names_next xs i n d is low = grind (arith, common_steps, length, take, length-take-le, begun_names, get_or, names_more, take_next)

-- ---- the only processor

pub filled_alone : {script : ScriptOf} {q r : ProcessorOf} {s : Lists} (x : ℕ) → GoesTo script q s → (IsAlone script q → GoesTo script r (record (lists_of script q) { free_slots = (lists_of script q).free_slots ++ x ∷ [] })) → GoesTo script r (record s { free_slots = s.free_slots ++ x ∷ [] })
filled_alone x was made = grind (arith, common_steps)

pub no_slot_goes : {script : ScriptOf} {q r : ProcessorOf} {s : Lists} → GoesTo script q s → (IsAlone script q → HasNoSlot script (lists_of script q) r) → GoesTo script r s
no_slot_goes was made = let m = made was.alone in record { alone = m.goes.alone; lists_are = m.goes.lists_are ∙ was.lists_are }

pub starts_one : {script : ScriptOf} {q r : ProcessorOf} {s : Lists} {slot : ℕ} (i program : ℕ) (x : Process) → x ≡ new_process (i ∷ []) program slot → TakesFreeSlot script s slot q → (IsAlone script q → GoesTo script r (enter_ready (lists_of script q) x)) → StartsOne script s i program r
starts_one {slot = slot} i program x is took made = grind (arith, common_steps, enter_ready)

-- one process more is started
pub started_alone : {script : ScriptOf} {q r : ProcessorOf} (xs : List ℕ) (x i : ℕ) → i ≡ length xs → i < script.slots → GoesTo script q (record (empty_lists script) { ready = begun_from 0 xs; free_slots = numbers_from i (script.slots - i) })
    → (IsAlone script q → StartsOne script (lists_of script q) i x r) → GoesTo script r (record (empty_lists script) { ready = begun_from 0 (xs ++ x ∷ []); free_slots = numbers_from (i + 1) (script.slots - (i + 1)) })
started_alone {script} {q} {r} xs x i i_is below was made = grind (arith, common_steps, numbers_from-next, numbers_from, get_or, drop, length, begun_from, new_process, begun_more, lists_of, empty_lists, enter_ready)

-- nobody is started yet
pub started_none : {script : ScriptOf} {q : ProcessorOf} → GoesTo script q (record (empty_lists script) { free_slots = numbers_from 0 script.slots }) → GoesTo script q (record (empty_lists script) { free_slots = numbers_from 0 (script.slots - 0) })
started_none {script} {q} g = let same : script.slots ≡ script.slots - 0 = omega arith in subst (λ n. GoesTo script q (record (empty_lists script) { free_slots = numbers_from 0 n })) same g

pub started_next : {script : ScriptOf} {q r : ProcessorOf} (xs : List ℕ) (i n d : ℕ) → n ≡ i → i < length xs → n < script.slots → GoesTo script q (record (empty_lists script) { ready = begun_from 0 (take i xs); free_slots = numbers_from n (script.slots - n) })
    → (IsAlone script q → StartsOne script (lists_of script q) n (get_or xs i d) r) → GoesTo script r (record (empty_lists script) { ready = begun_from 0 (take (i + 1) xs); free_slots = numbers_from (n + 1) (script.slots - (n + 1)) })
started_next {script} {r = r} xs i n d is low below was made =
    let at : n ≡ length (take i xs) = omega (arith, is, length-take-le i xs (omega (arith, low))) in
    subst (λ (l : List ℕ). GoesTo script r (record (empty_lists script) { ready = begun_from 0 l; free_slots = numbers_from (n + 1) (script.slots - (n + 1)) })) (sym (take_next xs i d low)) (started_alone (take i xs) (get_or xs i d) n at below was made)

-- all are started
pub all_started : {script : ScriptOf} {q : ProcessorOf} {xs : List ℕ} {n : ℕ} → xs ≡ script.start → n ≡ length script.start → GoesTo script q (record (empty_lists script) { ready = begun_from 0 xs; free_slots = numbers_from n (script.slots - n) }) → GoesTo script q (first_lists script)
all_started {script} all len g = record { alone = g.alone; lists_are = g.lists_are ∙ (λ i. record (empty_lists script) { ready = begun_from 0 (all i); free_slots = numbers_from (len i) (script.slots - len i) }) }

-- the list scheduler's first state is reached
pub reached_first : {script : ScriptOf} {p : ProcessorOf} → GoesTo script p (first_lists script) → IsReached script p (turn_over (lists_of script p))
reached_first g = record { alone = g.alone; count = 0; reached = ap turn_over g.lists_are }
