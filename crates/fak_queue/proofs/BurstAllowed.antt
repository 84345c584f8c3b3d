-- Each atomic step of a burst is one that the table's rule allows.
use Rattle.fak_core.specs.declared.queue.phase.Phase.TheVariants.{Idle, AddUp, BackUp, TicketIn, TurnIn, StoreItem, SubLow, BackLow, TicketOut, TurnOut, LoadItem}
use Rattle.fak_core.specs.QueueBlocks.{Posts, names_of, AreApart, all_at}
use Rattle.fak_queue.specs.Bursts.{AllIn, AreDisjoint, PostsAreIdle, Says, SaysAfter, TestedBurst, BackBurst, SubbedBurst, BackLowBurst, DrewOutBurst, TestedLowBurst, TurnedOutBurst, FreedBurst, TurnsOutBurst, FreesBurst, TurnedBurst, FilledBurst, TurnsBurst, FillsCellInBurst, DrewBurst, AddedBurst}
use Rattle.fak_queue.proofs.Common.{QueueHolder, IsPost, IsShownQueue, QueueLimits, ◌≡◌, ℕ, ◌+◌, ◌-◌, ◌%◌, ◌^◌, ◌≤◌, List, ◌∷◌, ◌++◌, length, slice_index, sym, ap, ◌∙◌, subst, arith, Option, Some, ◌*◌, ◌/◌, None, Phases, Alike, Each, some, get_elem?, In, Allows, carried_after}
use Rattle.fak_queue.proofs.Stepping.{QueueTable}
use Rattle.fak_queue.proofs.BurstBlocks.{Permits}
use Rattle.fak_queue.proofs.BurstInsertions.{adds_burst, backs_burst, draws_burst, tests_burst}
use Rattle.fak_queue.proofs.BurstDeletions.{backs_low_burst, draws_out_burst, subs_burst, tests_low_burst}
use Rattle.fak_queue.proofs.BurstTurns.{turns_burst, fills_burst, turns_out_burst, frees_burst, same_turn_in, same_store, same_turn_out, same_load}

-- the step is one that the rule allows
pub draws_burst_allowed : {T : Type 0} (key : QueueLimits) (slots seats id : ℕ) (m : QueueHolder T) → key.seats ≡ seats → (items : List (ℕ × T)) (others : Posts T) → Says m.0 (all_at (λ x. TicketIn x) items ++ others) → AreApart (names_of items) → AreDisjoint (names_of items) (names_of others) → AllIn (names_of items ++ names_of others) m.0.names → (d : ℕ) → d ≡ length items → d ≤ m.0.left
    → Allows (IsShownQueue key) slots id m 48 (λ w. (w + d) % 2 ^ 64) (DrewBurst slots seats items others m)
draws_burst_allowed {T} key slots seats id m few items others e once apart inn d d_is left s r wide at small =
    let size : key.size ≡ slots = sym r.encoded.wide ∙ wide in
    let q = draws_burst key s r id m at items others e once apart inn d d_is left in
    (q.0, q.1, q.2, q.3, subst (λ (z : ℕ × ℕ). DrewBurst z.0 z.1 items others m (slice_index s.words 48) (q.0, carried_after m.1 q.1)) (λ j. (size j, few j)) q.4)

pub adds_burst_allowed : {T : Type 0} (key : QueueLimits) (slots seats id : ℕ) (m : QueueHolder T) → key.seats ≡ seats → (items : List (ℕ × T)) (others : Posts T) → Says m.0 (all_at (λ x. AddUp x) items ++ others) → AreApart (names_of items) → AreDisjoint (names_of items) (names_of others) → AllIn (names_of items ++ names_of others) m.0.names → (d : ℕ) → d ≡ length items → d ≤ 1024
    → Allows (IsShownQueue key) slots id m 16 (λ w. (w + d) % 2 ^ 64) (AddedBurst slots seats items others m)
adds_burst_allowed {T} key slots seats id m few items others e once apart inn d d_is small' s r wide at small =
    let size : key.size ≡ slots = sym r.encoded.wide ∙ wide in
    let q = adds_burst key s r id m at items others e once apart inn d d_is small' in
    (q.0, q.1, q.2, q.3, subst (λ (z : ℕ × ℕ). AddedBurst z.0 z.1 items others m (slice_index s.words 16) (q.0, carried_after m.1 q.1)) (λ j. (size j, few j)) q.4)

pub tests_burst_allowed : {T : Type 0} (key : QueueLimits) (slots seats id : ℕ) (m : QueueHolder T) → key.seats ≡ seats → (items : List (ℕ × T)) (others : Posts T) → m.0.phase ≡ Some (Alike Idle)
    → AreApart (names_of items) → AreDisjoint (names_of items) (names_of others) → AllIn (names_of items ++ names_of others) m.0.names → AllIn m.0.names (names_of items ++ names_of others) → PostsAreIdle others
    → Allows (IsShownQueue key) slots id m 16 (λ w. w) (TestedBurst slots seats items others m)
tests_burst_allowed {T} key slots seats id m few items others e once apart inn whole idle s r wide at small =
    let size : key.size ≡ slots = sym r.encoded.wide ∙ wide in
    let q = tests_burst key s r id m at items others e once apart inn whole idle in
    (q.0, q.1, q.2, q.3, subst (λ (z : ℕ × ℕ). TestedBurst z.0 z.1 items others m (slice_index s.words 16) (q.0, carried_after m.1 q.1)) (λ j. (size j, few j)) q.4)

pub backs_burst_allowed : {T : Type 0} (key : QueueLimits) (slots seats id : ℕ) (m : QueueHolder T) → key.seats ≡ seats → (items : List (ℕ × T)) (others : Posts T) → Says m.0 (all_at (λ x. BackUp x) items ++ others) → AreApart (names_of items) → AreDisjoint (names_of items) (names_of others) → AllIn (names_of items ++ names_of others) m.0.names → (then : Phases T) → SaysAfter m.0.names (all_at (λ x. Idle) items ++ others) then → (d : ℕ) → d ≡ length items → d ≤ 1024
    → Allows (IsShownQueue key) slots id m 16 (λ w. (w + (2 ^ 64 - d)) % 2 ^ 64) (λ found after. BackBurst slots seats items others then m after)
backs_burst_allowed {T} key slots seats id m few items others e once apart inn then says d d_is small' s r wide at small =
    let size : key.size ≡ slots = sym r.encoded.wide ∙ wide in
    let q = backs_burst key s r id m at items others e once apart inn then says d d_is small' in
    (q.0, q.1, q.2, q.3, subst (λ (z : ℕ × ℕ). BackBurst z.0 z.1 items others then m (q.0, carried_after m.1 q.1)) (λ j. (size j, few j)) q.4)

pub tests_low_burst_allowed : {T : Type 0} (key : QueueLimits) (slots seats id : ℕ) (m : QueueHolder T) → key.seats ≡ seats → (items : List (ℕ × Unit {0})) (others : Posts T) → m.0.phase ≡ Some (Alike Idle)
    → AreApart (names_of items) → AreDisjoint (names_of items) (names_of others) → AllIn (names_of items ++ names_of others) m.0.names → AllIn m.0.names (names_of items ++ names_of others) → PostsAreIdle others
    → Allows (IsShownQueue key) slots id m 32 (λ w. w) (TestedLowBurst slots seats items others m)
tests_low_burst_allowed {T} key slots seats id m few items others e once apart inn whole idle s r wide at small =
    let size : key.size ≡ slots = sym r.encoded.wide ∙ wide in
    let q = tests_low_burst key s r id m at items others e once apart inn whole idle in
    (q.0, q.1, q.2, q.3, subst (λ (z : ℕ × ℕ). TestedLowBurst z.0 z.1 items others m (slice_index s.words 32) (q.0, carried_after m.1 q.1)) (λ j. (size j, few j)) q.4)

pub subs_burst_allowed : {T : Type 0} (key : QueueLimits) (slots seats id : ℕ) (m : QueueHolder T) → key.seats ≡ seats → (items : List (ℕ × Unit {0})) (others : Posts T) → Says m.0 (all_at (λ x. SubLow) items ++ others)
    → AreApart (names_of items) → AreDisjoint (names_of items) (names_of others) → AllIn (names_of items ++ names_of others) m.0.names → (d : ℕ) → d ≡ length items → d ≤ 1024
    → Allows (IsShownQueue key) slots id m 32 (λ w. (w + (2 ^ 64 - d)) % 2 ^ 64) (SubbedBurst slots seats items others m)
subs_burst_allowed {T} key slots seats id m few items others e once apart inn d d_is small' s r wide at small =
    let size : key.size ≡ slots = sym r.encoded.wide ∙ wide in
    let q = subs_burst key s r id m at items others e once apart inn d d_is small' in
    (q.0, q.1, q.2, q.3, subst (λ (z : ℕ × ℕ). SubbedBurst z.0 z.1 items others m (slice_index s.words 32) (q.0, carried_after m.1 q.1)) (λ j. (size j, few j)) q.4)

pub draws_out_burst_allowed : {T : Type 0} (key : QueueLimits) (slots seats id : ℕ) (m : QueueHolder T) → key.seats ≡ seats → (items : List (ℕ × Unit {0})) (others : Posts T) → Says m.0 (all_at (λ x. TicketOut) items ++ others)
    → AreApart (names_of items) → AreDisjoint (names_of items) (names_of others) → AllIn (names_of items ++ names_of others) m.0.names → (d : ℕ) → d ≡ length items → d ≤ m.0.left
    → Allows (IsShownQueue key) slots id m 64 (λ w. (w + d) % 2 ^ 64) (DrewOutBurst slots seats items others m)
draws_out_burst_allowed {T} key slots seats id m few items others e once apart inn d d_is left s r wide at small =
    let size : key.size ≡ slots = sym r.encoded.wide ∙ wide in
    let q = draws_out_burst key s r id m at items others e once apart inn d d_is left in
    (q.0, q.1, q.2, q.3, subst (λ (z : ℕ × ℕ). DrewOutBurst z.0 z.1 items others m (slice_index s.words 64) (q.0, carried_after m.1 q.1)) (λ j. (size j, few j)) q.4)

pub backs_low_burst_allowed : {T : Type 0} (key : QueueLimits) (slots seats id : ℕ) (m : QueueHolder T) → key.seats ≡ seats → (items : List (ℕ × Unit {0})) (others : Posts T) → Says m.0 (all_at (λ x. BackLow) items ++ others)
    → AreApart (names_of items) → AreDisjoint (names_of items) (names_of others) → AllIn (names_of items ++ names_of others) m.0.names → (then : Phases T) → SaysAfter m.0.names (all_at (λ x. Idle) items ++ others) then → (d : ℕ) → d ≡ length items → d ≤ 1024
    → Allows (IsShownQueue key) slots id m 32 (λ w. (w + d) % 2 ^ 64) (λ found after. BackLowBurst slots seats items others then m after)
backs_low_burst_allowed {T} key slots seats id m few items others e once apart inn then says d d_is small' s r wide at small =
    let size : key.size ≡ slots = sym r.encoded.wide ∙ wide in
    let q = backs_low_burst key s r id m at items others e once apart inn then says d d_is small' in
    (q.0, q.1, q.2, q.3, subst (λ (z : ℕ × ℕ). BackLowBurst z.0 z.1 items others then m (q.0, carried_after m.1 q.1)) (λ j. (size j, few j)) q.4)

-- a view says one thing of its names
each_same : {T : Type 0} {a b : Posts T} → Some (Each a) ≡ Some (Each b) → a ≡ b
each_same e = cc

-- one name at its cell
module _ {T : Type 0} (key : QueueLimits) (slots seats id : ℕ) (m : QueueHolder T) (few : key.seats ≡ seats) (n k : ℕ) (all : Posts T) (is_mine : In n m.0.names) (says : m.0.phase ≡ Some (Each all)) (i : ℕ) (is : i ≡ k % slots + 80) where
  -- a step at its cell, of the size and the seats of the queue
  at_cell : (f : ℕ → ℕ) (then : ℕ → ℕ → ℕ → QueueHolder T → Type 0) → ((s : QueueTable T) (r : IsShownQueue key s) (at : get_elem? s.views id ≡ some m.0) → key.size ≡ slots → Permits key s r id m at (80 + k % key.size) f (then key.size key.seats))
      → Allows (IsShownQueue key) slots id m i f (then slots seats)
  at_cell f then step s r wide at small =
      let size : key.size ≡ slots = sym r.encoded.wide ∙ wide in
      let place : 80 + k % key.size ≡ i = ap (λ z. 80 + k % z) size ∙ omega (arith, is) in
      let q = subst (λ j. Permits key s r id m at j f (then key.size key.seats)) place (step s r at size) in
      (q.0, q.1, q.2, q.3, subst (λ (z : ℕ × ℕ). then z.0 z.1 (slice_index s.words i) (q.0, carried_after m.1 q.1)) (λ j. (size j, few j)) q.4)

  pub turns_burst_allowed : (x : T) → IsPost n (TurnIn k x) all → Allows (IsShownQueue key) slots id m i (λ w. w) (TurnsBurst slots seats n m)
  turns_burst_allowed x post = at_cell (λ w. w) (λ z q found after. TurnsBurst z q n m found after) (λ s r at size.
      let t = turns_burst key s r id m at n is_mine all says k x post in (
        t.0,
        t.1,
        t.2,
        t.3,
        λ j y others e o.
            let same : all ≡ others = each_same (sym says ∙ e) in
            let one = same_turn_in key s r id m at n is_mine all says k j x y post (subst (IsPost n (TurnIn j y)) (sym same) o) in
            subst (λ (z : ℕ × T × Posts T). TurnedBurst key.size key.seats n z.0 z.1 z.2 m (slice_index s.words (80 + k % key.size)) (t.0, carried_after m.1 t.1)) (λ c. (one.0 c, one.1 c, same c)) t.4,
      ))

  pub fills_burst_allowed : (x : T) (v : ℕ) (tl : List (ℕ × Option T)) → IsPost n (StoreItem k x) all → m.1 ≡ (k % slots, Some x) ∷ tl → v ≡ 2 * (k / slots) + 1 → Allows (IsShownQueue key) slots id m i (λ _. v) (λ found after. FillsCellInBurst slots seats n m after)
  fills_burst_allowed x v tl post held v_is = at_cell (λ _. v) (λ z q found after. FillsCellInBurst z q n m after) (λ s r at size.
      let t = fills_burst key s r id m at n is_mine all says k x v tl post (held ∙ ap (λ z. (k % z, Some x) ∷ tl) (sym size)) (v_is ∙ ap (λ z. 2 * (k / z) + 1) (sym size)) in (
        t.0,
        t.1,
        t.2,
        t.3,
        λ j y others e o.
            let same : all ≡ others = each_same (sym says ∙ e) in
            let one = same_store key s r id m at n is_mine all says k j x y post (subst (IsPost n (StoreItem j y)) (sym same) o) in
            subst (λ (z : ℕ × Posts T). FilledBurst key.size key.seats n z.0 z.1 m (t.0, carried_after m.1 t.1)) (λ c. (one c, same c)) t.4,
      ))

  pub turns_out_burst_allowed : IsPost n (TurnOut k) all → Allows (IsShownQueue key) slots id m i (λ w. w) (TurnsOutBurst slots seats n m)
  turns_out_burst_allowed post = at_cell (λ w. w) (λ z q found after. TurnsOutBurst z q n m found after) (λ s r at size.
      let t = turns_out_burst key s r id m at n is_mine all says k post in (
        t.0,
        t.1,
        t.2,
        t.3,
        λ j others e o.
            let same : all ≡ others = each_same (sym says ∙ e) in
            let one = same_turn_out key s r id m at n is_mine all says k j post (subst (IsPost n (TurnOut j)) (sym same) o) in
            subst (λ (z : ℕ × Posts T). TurnedOutBurst key.size key.seats n z.0 z.1 m (slice_index s.words (80 + k % key.size)) (t.0, carried_after m.1 t.1)) (λ c. (one c, same c)) t.4,
      ))

  pub frees_burst_allowed : (v : ℕ) (tl : List (ℕ × Option T)) → IsPost n (LoadItem k) all → m.1 ≡ (k % slots, None) ∷ tl → v ≡ 2 * (k / slots) + 2 → Allows (IsShownQueue key) slots id m i (λ _. v) (λ found after. FreesBurst slots seats n m after)
  frees_burst_allowed v tl post held v_is = at_cell (λ _. v) (λ z q found after. FreesBurst z q n m after) (λ s r at size.
      let t = frees_burst key s r id m at n is_mine all says k v tl post (held ∙ ap (λ z. (k % z, None) ∷ tl) (sym size)) (v_is ∙ ap (λ z. 2 * (k / z) + 2) (sym size)) in (
        t.0,
        t.1,
        t.2,
        t.3,
        λ j others e o.
            let same : all ≡ others = each_same (sym says ∙ e) in
            let one = same_load key s r id m at n is_mine all says k j post (subst (IsPost n (LoadItem j)) (sym same) o) in
            subst (λ (z : ℕ × Posts T). FreedBurst key.size key.seats n z.0 z.1 m (t.0, carried_after m.1 t.1)) (λ c. (one c, same c)) t.4,
      ))
