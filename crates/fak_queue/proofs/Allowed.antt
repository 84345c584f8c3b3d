-- Each atomic step is one that the table's rule allows.
use Rattle.fak_core.specs.declared.queue.phase.Phase.TheVariants.{Idle, AddUp, BackUp, TicketIn, TurnIn, StoreItem, EndInsert, SubLow, BackLow, TicketOut, TurnOut, LoadItem, EndDelete}
use Rattle.fak_queue.proofs.Common.{Alike, Phases, UpperCount, QueueLimits, IsUpperCount, QueueHolder, queue_object, IsShownQueue, ◌≡◌, ℕ, ◌+◌, ◌-◌, ◌*◌, ◌/◌, ◌%◌, ◌^◌, ◌<◌, List, [], ◌∷◌, slice_index, sym, ap, ◌∙◌, subst, arith, bit_or, bias, ℤ, pos, ◌+ℤ◌, Option, Some, None, some, get_elem?, Allows, carried_after, Phase, TestedUp, TestsUp, AddedUp, AddsUp, BacksUp, DrewIn, DrawsIn, TurnedIn, TurnsIn, FilledCell, SetsFull, EndsIn, TestsLow, SubtractsLow, BacksLow, DrawsOut, TurnedOut, TurnsOut, FreedCell, SetsFree, EndsOut, Shuts, HeardJoin, Named, hears}
use Rattle.fak_queue.specs.declared.in_use.InUse.{InUse}
use Rattle.fak_queue.specs.Steps.{ObservedUp, ObservesUp, ObservedLow, ObservesLow}
use Rattle.fak_queue.specs.Words.{IsInUse}
use Rattle.fak_queue.proofs.Observations.{observes_up, observes_low, few_low}
use Rattle.fak_queue.proofs.Stepping.{QueueTable, queue_law, Permits}
use Rattle.fak_queue.proofs.InsertionSteps.{tests_up, adds_up, backs_up, draws_in, turns_in, stores_full, ends_in, shuts}
use Rattle.fak_queue.proofs.DeletionSteps.{tests_low, subtracts_low, backs_low, draws_out, turns_out, stores_free, ends_out}

-- a step tells of the item and the ticket of the phase that it starts from
item_of_add : {T : Type 0} {x y : T} → Some (Alike (AddUp x)) ≡ Some (Alike (AddUp y)) → x ≡ y
item_of_add e = cc

item_of_draw : {T : Type 0} {x y : T} → Some (Alike (TicketIn x)) ≡ Some (Alike (TicketIn y)) → x ≡ y
item_of_draw e = cc

item_of_turn : {T : Type 0} {j k : ℕ} {x y : T} → Some (Alike (TurnIn j x)) ≡ Some (Alike (TurnIn k y)) → (j ≡ k) × (x ≡ y)
item_of_turn e = (cc, cc)

item_of_store : {T : Type 0} {j k : ℕ} {x y : T} → Some (Alike (StoreItem j x)) ≡ Some (Alike (StoreItem k y)) → j ≡ k
item_of_store e = cc

ticket_of_turn : {T : Type 0} {j k : ℕ} → ◌≡◌ {A = Option (Phases T)} (Some (Alike (TurnOut j))) (Some (Alike (TurnOut k))) → j ≡ k
ticket_of_turn e = cc

ticket_of_load : {T : Type 0} {j k : ℕ} → ◌≡◌ {A = Option (Phases T)} (Some (Alike (LoadItem j))) (Some (Alike (LoadItem k))) → j ≡ k
ticket_of_load e = cc

first_same : {a b : ℕ} → a ∷ [] ≡ b ∷ [] → a ≡ b
first_same e = cc

phase_same : {T : Type 0} {p q : Phase T} → Some (Alike p) ≡ Some (Alike q) → p ≡ q
phase_same e = cc

Some_same : {A : Type 0} {a b : A} → Some a ≡ Some b → a ≡ b
Some_same e = cc

module _ {T : Type 0} (key : QueueLimits) (slots seats id n : ℕ) (m : QueueHolder T) (few : key.seats ≡ seats) (one : m.0.names ≡ n ∷ []) where
  -- what a step at this word tells, of the size and the seats of the queue
  abbrev pub Permitted : ℕ → (ℕ → ℕ) → (ℕ → ℕ → ℕ → QueueHolder T → Type 0) → Type 0
  Permitted i f then = Allows (IsShownQueue key) slots id m i f (λ found after. then slots seats found after)

  pub of_step : (i : ℕ) (f : ℕ → ℕ) (then : ℕ → ℕ → ℕ → QueueHolder T → Type 0)
      → ((s : QueueTable T) (r : IsShownQueue key s) (at : get_elem? s.views id ≡ some m.0) → key.size ≡ slots → Permits key s r id n m at one i f (then key.size key.seats)) → Permitted i f then
  of_step i f then all s r wide at small =
      let size : key.size ≡ slots = sym r.encoded.wide ∙ wide in
      let q = all s r at size in
      (q.0, q.1, q.2, q.3, subst (λ (z : ℕ × ℕ). then z.0 z.1 (slice_index s.words i) (q.0, carried_after m.1 q.1)) (λ j. (size j, few j)) q.4)

  -- at the turn of a cell, whose place depends on the number of slots
  of_turn : (i k : ℕ) → i ≡ k % slots + 80 → (f : ℕ → ℕ) (then : ℕ → ℕ → ℕ → QueueHolder T → Type 0)
      → ((s : QueueTable T) (r : IsShownQueue key s) (at : get_elem? s.views id ≡ some m.0) → key.size ≡ slots → Permits key s r id n m at one (80 + k % key.size) f (then key.size key.seats)) → Permitted i f then
  of_turn i k is f then all = of_step i f then (λ s r at size.
      let place : 80 + k % key.size ≡ i = ap (λ z. 80 + k % z) size ∙ omega (arith, is) in
      subst (λ j. Permits key s r id n m at one j f (then key.size key.seats)) place (all s r at size))

  -- then weaker
  abbrev Weakens : (ℕ → QueueHolder T → Type 0) → (ℕ → QueueHolder T → Type 0) → Type 0
  Weakens then less = (found : ℕ) (after : QueueHolder T) → then found after → less found after

  weaker : (i : ℕ) (f : ℕ → ℕ) (then less : ℕ → QueueHolder T → Type 0) → Weakens then less → Allows (IsShownQueue key) slots id m i f then → Allows (IsShownQueue key) slots id m i f less
  weaker i f then less gives all s r wide at small = let q = all s r wide at small in (q.0, q.1, q.2, q.3, gives (slice_index s.words i) (q.0, carried_after m.1 q.1) q.4)

  -- of whatever name the seat has
  pub named : (i : ℕ) (f : ℕ → ℕ) (then : ℕ → ℕ → QueueHolder T → Type 0) → Allows (IsShownQueue key) slots id m i f (then n) → Allows (IsShownQueue key) slots id m i f (λ found after. Named m (λ k. then k found after))
  named i f then = weaker i f (then n) (λ found after. Named m (λ k. then k found after)) (λ found after told k other. subst (λ z. then z found after) (first_same (sym one ∙ other)) told)

  pub tests_up_allowed : (item : Option T) (x : T) → item ≡ Some x → m.0.phase ≡ Some (Alike Idle) → Allows (IsShownQueue key) slots id m 16 (λ w. w) (λ found after. Named m (λ k. TestsUp slots seats k item m found after))
  tests_up_allowed item x is e = named 16 (λ w. w) (λ k. TestsUp slots seats k item m) (weaker 16 (λ w. w) (λ found after. (u : UpperCount) → IsUpperCount slots found u → TestedUp slots seats n x u m after) (TestsUp slots seats n item m)
      (λ found after told y it. subst (λ z. (u : UpperCount) → IsUpperCount slots found u → TestedUp slots seats n z u m after) (Some_same (sym is ∙ it)) told)
      (of_step 16 (λ w. w) (λ z k found after. (u : UpperCount) → IsUpperCount z found u → TestedUp z k n x u m after) (λ s r at size. tests_up key s r id n m at one x e)))

  pub adds_up_allowed : (x : T) → m.0.phase ≡ Some (Alike (AddUp x)) → Allows (IsShownQueue key) slots id m 16 (λ w. (w + 1) % 2 ^ 64) (λ found after. Named m (λ k. AddsUp slots seats k m found after))
  adds_up_allowed x e = named 16 (λ w. (w + 1) % 2 ^ 64) (λ k. AddsUp slots seats k m) (weaker 16 (λ w. (w + 1) % 2 ^ 64) (λ found after. (u : UpperCount) → IsUpperCount slots found u → AddedUp slots seats n x u m after) (AddsUp slots seats n m)
      (λ found after told y it. subst (λ z. (u : UpperCount) → IsUpperCount slots found u → AddedUp slots seats n z u m after) (item_of_add (sym e ∙ it)) told)
      (of_step 16 (λ w. (w + 1) % 2 ^ 64) (λ z k found after. (u : UpperCount) → IsUpperCount z found u → AddedUp z k n x u m after) (λ s r at size. adds_up key s r id n m at one x e)))

  pub backs_up_allowed : (x : T) → m.0.phase ≡ Some (Alike (BackUp x)) → Allows (IsShownQueue key) slots id m 16 (λ w. (w + (2 ^ 64 - 1)) % 2 ^ 64) (λ found after. Named m (λ k. BacksUp slots seats k m after))
  backs_up_allowed x e = named 16 (λ w. (w + (2 ^ 64 - 1)) % 2 ^ 64) (λ k found after. BacksUp slots seats k m after) (of_step 16 (λ w. (w + (2 ^ 64 - 1)) % 2 ^ 64) (λ z k found after. BacksUp z k n m after) (λ s r at size. backs_up key s r id n m at one x e))

  pub draws_in_allowed : (x : T) → m.0.phase ≡ Some (Alike (TicketIn x)) → 0 < m.0.left → Allows (IsShownQueue key) slots id m 48 (λ w. (w + 1) % 2 ^ 64) (λ found after. Named m (λ k. DrawsIn slots seats k m found after))
  draws_in_allowed x e left = named 48 (λ w. (w + 1) % 2 ^ 64) (λ k. DrawsIn slots seats k m) (weaker 48 (λ w. (w + 1) % 2 ^ 64) (DrewIn slots seats n x m) (DrawsIn slots seats n m)
      (λ found after told y it. subst (λ z. DrewIn slots seats n z m found after) (item_of_draw (sym e ∙ it)) told)
      (of_step 48 (λ w. (w + 1) % 2 ^ 64) (λ z k. DrewIn z k n x m) (λ s r at size. draws_in key s r id n m at one x e left)))

  pub turns_in_allowed : (i k : ℕ) → i ≡ k % slots + 80 → (x : T) → m.0.phase ≡ Some (Alike (TurnIn k x)) → Allows (IsShownQueue key) slots id m i (λ w. w) (λ found after. Named m (λ k. TurnsIn slots seats k m found after))
  turns_in_allowed i k is x e = named i (λ w. w) (λ k. TurnsIn slots seats k m) (weaker i (λ w. w) (TurnedIn slots seats n k x m) (TurnsIn slots seats n m)
      (λ found after told j y it. let same = item_of_turn (sym e ∙ it) in subst (λ (z : ℕ × T). TurnedIn slots seats n z.0 z.1 m found after) (λ c. (same.0 c, same.1 c)) told)
      (of_turn i k is (λ w. w) (λ z q. TurnedIn z q n k x m) (λ s r at size. turns_in key s r id n m at one k x e)))

  pub sets_full_allowed : (i k v : ℕ) → i ≡ k % slots + 80 → (x : T) (tl : List (ℕ × Option T)) → m.0.phase ≡ Some (Alike (StoreItem k x)) → m.1 ≡ (k % slots, Some x) ∷ tl → v ≡ 2 * (k / slots) + 1
      → Allows (IsShownQueue key) slots id m i (λ _. v) (λ found after. Named m (λ k. SetsFull slots seats k m after))
  sets_full_allowed i k v is x tl e held v_is = named i (λ _. v) (λ k found after. SetsFull slots seats k m after) (weaker i (λ _. v) (λ _ after. FilledCell slots seats n k m after) (λ _ after. SetsFull slots seats n m after)
      (λ found after told j y it. subst (λ z. FilledCell slots seats n z m after) (item_of_store (sym e ∙ it)) told)
      (of_turn i k is (λ _. v) (λ z q found after. FilledCell z q n k m after)
      (λ s r at size. stores_full key s r id n m at one k v x tl e (held ∙ ap (λ z. (k % z, Some x) ∷ tl) (sym size)) (v_is ∙ ap (λ z. 2 * (k / z) + 1) (sym size)))))

  pub ends_in_allowed : (k : ℕ) → m.0.phase ≡ Some (Alike (EndInsert k)) → Allows (IsShownQueue key) slots id m 32 (λ w. (w + 1) % 2 ^ 64) (λ found after. Named m (λ k. EndsIn slots seats k m after))
  ends_in_allowed k e = named 32 (λ w. (w + 1) % 2 ^ 64) (λ k found after. EndsIn slots seats k m after) (of_step 32 (λ w. (w + 1) % 2 ^ 64) (λ z q found after. EndsIn z q n m after) (λ s r at size. ends_in key s r id n m at one k e))

  pub tests_low_allowed : m.0.phase ≡ Some (Alike Idle) → Allows (IsShownQueue key) slots id m 32 (λ w. w) (λ found after. Named m (λ k. TestsLow slots seats k m found after))
  tests_low_allowed e = named 32 (λ w. w) (λ k. TestsLow slots seats k m) (of_step 32 (λ w. w) (λ z q. TestsLow z q n m) (λ s r at size. tests_low key s r id n m at one e))

  pub subtracts_low_allowed : m.0.phase ≡ Some (Alike SubLow) → Allows (IsShownQueue key) slots id m 32 (λ w. (w + (2 ^ 64 - 1)) % 2 ^ 64) (λ found after. Named m (λ k. SubtractsLow slots seats k m found after))
  subtracts_low_allowed e = named 32 (λ w. (w + (2 ^ 64 - 1)) % 2 ^ 64) (λ k. SubtractsLow slots seats k m) (of_step 32 (λ w. (w + (2 ^ 64 - 1)) % 2 ^ 64) (λ z q. SubtractsLow z q n m) (λ s r at size. subtracts_low key s r id n m at one e))

  pub backs_low_allowed : m.0.phase ≡ Some (Alike BackLow) → Allows (IsShownQueue key) slots id m 32 (λ w. (w + 1) % 2 ^ 64) (λ found after. Named m (λ k. BacksLow slots seats k m after))
  backs_low_allowed e = named 32 (λ w. (w + 1) % 2 ^ 64) (λ k found after. BacksLow slots seats k m after) (of_step 32 (λ w. (w + 1) % 2 ^ 64) (λ z q found after. BacksLow z q n m after) (λ s r at size. backs_low key s r id n m at one e))

  pub draws_out_allowed : m.0.phase ≡ Some (Alike TicketOut) → 0 < m.0.left → Allows (IsShownQueue key) slots id m 64 (λ w. (w + 1) % 2 ^ 64) (λ found after. Named m (λ k. DrawsOut slots seats k m found after))
  draws_out_allowed e left = named 64 (λ w. (w + 1) % 2 ^ 64) (λ k. DrawsOut slots seats k m) (of_step 64 (λ w. (w + 1) % 2 ^ 64) (λ z q. DrawsOut z q n m) (λ s r at size. draws_out key s r id n m at one e left))

  pub turns_out_allowed : (i k : ℕ) → i ≡ k % slots + 80 → m.0.phase ≡ Some (Alike (TurnOut k)) → Allows (IsShownQueue key) slots id m i (λ w. w) (λ found after. Named m (λ k. TurnsOut slots seats k m found after))
  turns_out_allowed i k is e = named i (λ w. w) (λ k. TurnsOut slots seats k m) (weaker i (λ w. w) (TurnedOut slots seats n k m) (TurnsOut slots seats n m)
      (λ found after told j it. subst (λ z. TurnedOut slots seats n z m found after) (ticket_of_turn (sym e ∙ it)) told)
      (of_turn i k is (λ w. w) (λ z q. TurnedOut z q n k m) (λ s r at size. turns_out key s r id n m at one k e)))

  pub sets_free_allowed : (i k v : ℕ) → i ≡ k % slots + 80 → (tl : List (ℕ × Option T)) → m.0.phase ≡ Some (Alike (LoadItem k)) → m.1 ≡ (k % slots, None) ∷ tl → v ≡ 2 * (k / slots) + 2
      → Allows (IsShownQueue key) slots id m i (λ _. v) (λ found after. Named m (λ k. SetsFree slots seats k m after))
  sets_free_allowed i k v is tl e held v_is = named i (λ _. v) (λ k found after. SetsFree slots seats k m after) (weaker i (λ _. v) (λ _ after. FreedCell slots seats n k m after) (λ _ after. SetsFree slots seats n m after)
      (λ found after told j it. subst (λ z. FreedCell slots seats n z m after) (ticket_of_load (sym e ∙ it)) told)
      (of_turn i k is (λ _. v) (λ z q found after. FreedCell z q n k m after)
      (λ s r at size. stores_free key s r id n m at one k v tl e (held ∙ ap (λ z. (k % z, None) ∷ tl) (sym size)) (v_is ∙ ap (λ z. 2 * (k / z) + 2) (sym size)))))

  pub ends_out_allowed : (k : ℕ) → m.0.phase ≡ Some (Alike (EndDelete k)) → Allows (IsShownQueue key) slots id m 16 (λ w. (w + (2 ^ 64 - 1)) % 2 ^ 64) (λ found after. Named m (λ k. EndsOut slots seats k m after))
  ends_out_allowed k e = named 16 (λ w. (w + (2 ^ 64 - 1)) % 2 ^ 64) (λ k found after. EndsOut slots seats k m after) (of_step 16 (λ w. (w + (2 ^ 64 - 1)) % 2 ^ 64) (λ z q found after. EndsOut z q n m after) (λ s r at size. ends_out key s r id n m at one k e))

  pub shuts_allowed : m.0.phase ≡ Some (Alike Idle) → Allows (IsShownQueue key) slots id m 16 (λ w. bit_or w 9223372036854775808) (λ found after. Named m (λ k. Shuts slots seats k m found after))
  shuts_allowed e = named 16 (λ w. bit_or w 9223372036854775808) (λ k. Shuts slots seats k m) (of_step 16 (λ w. bit_or w 9223372036854775808) (λ z q. Shuts z q n m) (λ s r at size. shuts key s r id n m at one e))

  pub observes_up_allowed : (p : Phase T) → m.0.phase ≡ Some (Alike p) → Allows (IsShownQueue key) slots id m 16 (λ w. w) (λ found after. ObservesUp slots seats m found after)
  observes_up_allowed p e = weaker 16 (λ w. w) (λ found after. (u : InUse) → IsInUse found u → ObservedUp slots seats p u m after) (ObservesUp slots seats m)
      (λ found after told y it. subst (λ z. (u : InUse) → IsInUse found u → ObservedUp slots seats z u m after) (phase_same (sym e ∙ it)) told)
      (of_step 16 (λ w. w) (λ z k found after. (u : InUse) → IsInUse found u → ObservedUp z k p u m after) (λ s r at size. observes_up key s r id n m at one p e))

  pub observes_low_allowed : (p : Phase T) → m.0.phase ≡ Some (Alike p) → Allows (IsShownQueue key) slots id m 32 (λ w. w) (λ found after. ObservesLow slots seats m found after)
  observes_low_allowed p e s r wide at small =
      let told = of_step 32 (λ w. w) (λ z k found after. (j : ℤ) → pos found ≡ pos bias +ℤ j → ObservedLow z k p j m after) (λ s r at size. observes_low key s r id n m at one p e) s r wide at small in (
        told.0,
        told.1,
        told.2,
        told.3,
        record {
          low = few_low key s r id n m at one;
          observed = λ q it. subst (λ z. (j : ℤ) → pos (slice_index s.words 32) ≡ pos bias +ℤ j → ObservedLow slots seats z j m (told.0, carried_after m.1 told.1)) (phase_same (sym e ∙ it)) told.4;
        },
      )

-- the load after a join
pub hears_allowed : {T : Type 0} (key : QueueLimits) (slots seats id : ℕ) (m : QueueHolder T) (i : ℕ) → key.seats ≡ seats → Allows (IsShownQueue key) slots id m i (λ w. w) (λ _ after. HeardJoin slots seats m after)
hears_allowed {T} key slots seats id m i few s r wide at small =
    let size : key.size ≡ slots = sym r.encoded.wide ∙ wide in
    let q = hears (queue_object key.size key.seats) (queue_law key.size key.seats r.encoded.some_cell) slots id m i s r wide at small in
    (q.0, q.1, q.2, q.3, subst (λ (z : ℕ × ℕ). HeardJoin z.0 z.1 m (q.0, carried_after m.1 q.1)) (λ j. (size j, few j)) q.4)
