-- One name of a bundle at its cell: the load of the turn, and the store that passes the cell on.
use Rattle.fak_model.specs.declared.queue.Kind.TheVariants as made
use Rattle.fak_model.specs.Views.{sight as sees}
use Rattle.fak_model.proofs.RunningBlocks.{AreAmong, BlockAdvances, block_steps}
use Rattle.fak_core.specs.declared.queue.phase.Phase.TheVariants.{TurnIn, StoreItem, SetFull, EndInsert, TurnOut, LoadItem, SetFree, EndDelete}
use Rattle.fak_core.specs.QueueBlocks.{Posts}
use Rattle.fak_queue.specs.Bursts.{TurnedOutBurst, FreedBurst, post_to, TurnedBurst, FilledBurst}
use Rattle.fak_queue.proofs.Common.{IsReachedFrom, from_itself, reached_after, sleepers_after, QueueHolder, IsPost, queue_object, IsShownQueue, QueueLimits, AreWords, IsEncoded, ◌≡◌, ◌≢◌, ℕ, ◌+◌, ◌%◌, ◌<◌, List, [], ◌∷◌, ◌++◌, slice_index, set, refl, sym, ap, ◌∙◌, subst, inl, inr, arith, Option, Some, reverse, true_or_false, ◌*◌, ◌/◌, ◌==◌, takes, gives, homes_after, length-set, mod-lt, None, has_back, stage, Putting, shown, waits_fill, nat_tests, IsAtHome, at_here, at_else, with_at, with_phase, moved, move_from, moves, if_true, if_false, Each, WaitsIn, WaitsOut, mark, QueueMove, Getting, waits_take, loads_put, item_of, item_at, items_put, item_there, getting_below, contents_bounded, some, none, get_elem?, In, keeps, Mark, Phase, QueueState, InCell, kept}
use Rattle.fak_queue.proofs.WordWrites.{words_same, words_turn}
use Rattle.fak_queue.proofs.DeletionSteps.{item_past}
use Rattle.fak_queue.proofs.Slots.{takes_slot, gives_slot, slot_there}
use Rattle.fak_queue.proofs.Stepping.{QueueTable, queue_law, stands_else}
use Rattle.fak_queue.proofs.BurstPosts.{moved_post}
use Rattle.fak_queue.proofs.BurstWords.{homes_stay}
use Rattle.fak_queue.proofs.BurstBlocks.{K, Permits}

module _ {T : Type 0} (key : QueueLimits) (s : QueueTable T) (r : IsShownQueue key s) (id : ℕ) (m : QueueHolder T) (at : get_elem? s.views id ≡ some m.0) where
  -- ---- one name's turn at its cell

  module _ (n : ℕ) (is_mine : In n m.0.names) (all : Posts T) (says : m.0.phase ≡ Some (Each all)) where
    stands_here : (p : Phase T) → IsPost n p all → r.core.phase n ≡ p
    stands_here p e = r.stands id m.0 at n is_mine (Each all) says p e

    -- its step to q, while the other names stay as they are
    name_step : (q : Phase T) → (c : QueueState T) → IsReachedFrom key.seats key.size r.core c → (new : List (Mark T)) → c.past ≡ new ++ r.core.past → AreAmong (λ (w : Mark T). w.seat) m.0.names new → c.phase n ≡ q
        → ((t : ℕ) → t ≢ n → c.phase t ≡ r.core.phase t) → BlockAdvances (queue_object key.size key.seats) r.core m.0.names c new (Each (post_to n q all))
    name_step q c reached new past own here others =
        let low = r.below id m.0 at n is_mine in
        record {
          reached = record { reached = reached_after key.size r.core c r.reached.reached reached; beyond = λ t far. others t (λ e. omega (arith, low, far, e)) ∙ r.reached.beyond t far };
          past = past;
          own = own;
          stands = λ t i w o. elim (moved_post n q all t w o) [
            | inl e ↦ ap c.phase e.0 ∙ (here ∙ sym e.1)
            | inr e ↦ others t e.0 ∙ r.stands id m.0 at t i (Each all) says w e.1
          ];
          others = λ t w out. stands_else r.core c t (others t (λ z. out (subst (λ (y : ℕ). In y m.0.names) (sym z) is_mine))) w;
        }

    -- its post names one phase
    pub same_turn_in : (j k : ℕ) (y x : T) → IsPost n (TurnIn j y) all → IsPost n (TurnIn k x) all → (j ≡ k) × (y ≡ x)
    same_turn_in j k y x o e = let same : TurnIn j y ≡ TurnIn k x = sym (stands_here (TurnIn j y) o) ∙ stands_here (TurnIn k x) e in (cc, cc)

    pub same_store : (j k : ℕ) (y x : T) → IsPost n (StoreItem j y) all → IsPost n (StoreItem k x) all → j ≡ k
    same_store j k y x o e = let same : StoreItem j y ≡ StoreItem k x = sym (stands_here (StoreItem j y) o) ∙ stands_here (StoreItem k x) e in cc

    pub same_turn_out : (j k : ℕ) → IsPost n (TurnOut j) all → IsPost n (TurnOut k) all → j ≡ k
    same_turn_out j k o e = let same : ◌≡◌ {A = Phase T} (TurnOut j) (TurnOut k) = sym (stands_here (TurnOut j) o) ∙ stands_here (TurnOut k) e in cc

    pub same_load : (j k : ℕ) → IsPost n (LoadItem j) all → IsPost n (LoadItem k) all → j ≡ k
    same_load j k o e = let same : ◌≡◌ {A = Phase T} (LoadItem j) (LoadItem k) = sym (stands_here (LoadItem j) o) ∙ stands_here (LoadItem k) e in cc

    apart_once : (p : Phase T) (t : ℕ) → t ≢ n → with_at r.core.phase n p t ≡ r.core.phase t
    apart_once p t ne = at_else r.core.phase n t p ne

    apart_twice : (p q : Phase T) (t : ℕ) → t ≢ n → with_at (with_at r.core.phase n p) n q t ≡ r.core.phase t
    apart_twice p q t ne = at_else (with_at r.core.phase n p) n t q ne ∙ at_else r.core.phase n t p ne

    abbrev Leads : QueueMove T → Type 0
    Leads o = IsReachedFrom key.seats key.size r.core (moved r.core n o)

    near_of : (k : ℕ) → k % key.size < key.size
    near_of k = mod-lt k r.encoded.some_cell

    turn_at : (k : ℕ) → slice_index s.words (80 + k % key.size) ≡ r.core.turn (k % key.size)
    turn_at k = r.encoded.words_are.turns_are (k % key.size) (near_of k)

    pub turns_burst : (k : ℕ) (x : T) → IsPost n (TurnIn k x) all → Permits key s r id m at (80 + k % key.size) (λ w. w) (TurnedBurst key.size key.seats n k x all m)
    turns_burst k x e =
        let i = k % key.size in
        let w = slice_index s.words (80 + i) in
        let here = stands_here (TurnIn k x) e in
        let law = queue_law {T = T} key.size key.seats r.encoded.some_cell in
        let reached_next = moves key.size r.core (from_itself key.size r.core) n (r.below id m.0 at n is_mine) (TurnIn k x) here in
        let out : (j : ℕ) → InCell key.size (r.core.phase n) j → ⊥ = λ j a. subst (λ p. InCell key.size p j) here a in
        let same = words_same key.size r.core.upper r.core.lower r.core.draws_in r.core.draws_out r.core.turn r.core.shut s.words r.encoded.words_are (80 + i) in
        elim (true_or_false (r.core.turn i == 2 * (k / key.size))) [
          | inl hit ↦ (
              let turn : r.core.turn i ≡ 2 * (k / key.size) = grind (arith, nat_tests) in
              let p : Phase T = StoreItem k x in
              let c = with_phase r.core n p in
              let reached_here = if_true Leads (r.core.turn i == 2 * (k / key.size)) _ _ hit reached_next in
              let there : c.phase n ≡ p = at_here r.core.phase n p in
              let inside : InCell key.size (c.phase n) i = subst (λ p. InCell key.size p i) (sym there) refl in
              let only : (j : ℕ) → InCell key.size (c.phase n) j → j ≡ i = λ j a. sym (subst (λ p. InCell key.size p j) there a) in
              let home = slot_there key.size n r.core s.homes r.encoded.wide r.encoded.slots_are c (apart_once p) r.encoded.some_cell (reached_after key.size r.core c r.reached.reached reached_here) out i (near_of k) inside in
              let step = name_step p c reached_here [] refl tt there (apart_once p) in
              let shows : IsEncoded key.size key.seats c r.notes (set s.words (80 + i) w) (set s.homes i none) = record {
                sleepers = sleepers_after key.seats key.size r.core c r.notes s.words (80 + i) w r.encoded.sleepers reached_here (omega arith) (let h = near_of k in omega arith);
                some_cell = r.encoded.some_cell;
                few_cells = r.encoded.few_cells;
                few_seats = r.encoded.few_seats;
                words_are = same;
                wide = length-set s.homes i none ∙ r.encoded.wide;
                slots_are = takes_slot key.size n r.core s.homes r.encoded.wide r.encoded.slots_are c (apart_once p) refl refl out i (near_of k) inside only;
              } in
              let q = block_steps (queue_object key.size key.seats) s r id m at law c [] (Each (post_to n p all)) step (80 + i) w (takes i None) shows m.0.left (omega arith) (λ past. Unit {0}) tt in
              (sees m.0.names m.0.noted r.core.past (Each (post_to n p all)) m.0.left, takes i None, home.even (k / key.size) turn, q.0, record { hit = λ _. q.1; miss = λ ne. absurd (ne ((turn_at k) ∙ turn)) }))
          | inr far ↦ (
              let turn : r.core.turn i ≢ 2 * (k / key.size) = λ q. absurd (grind (arith, nat_tests)) in
              let p : Phase T = TurnIn k x in
              let c = with_phase r.core n p in
              let reached_here = if_false Leads (r.core.turn i == 2 * (k / key.size)) _ _ far reached_next in
              let putting : stage r.core.past n ≡ Putting k x = sym ((K key s r id m at).phases n) ∙ ap shown here in
              let wait = waits_fill key.size r.core n k x r.encoded.some_cell (K key s r id m at) putting turn in
              let waits : WaitsIn key.size key.seats n k x r.core.past = record { putting = putting; earlier = wait.0; round = wait.1; untaken = λ h. wait.2 (has_back (made.Take wait.0) r.core.past h) } in
              let there : c.phase n ≡ p = at_here r.core.phase n p in
              let step = name_step p c reached_here [] refl tt there (apart_once p) in
              let shows : IsEncoded key.size key.seats c r.notes (set s.words (80 + i) w) s.homes = record {
                sleepers = sleepers_after key.seats key.size r.core c r.notes s.words (80 + i) w r.encoded.sleepers reached_here (omega arith) (let h = near_of k in omega arith);
                some_cell = r.encoded.some_cell;
                few_cells = r.encoded.few_cells;
                few_seats = r.encoded.few_seats;
                words_are = same;
                wide = r.encoded.wide;
                slots_are = λ j lt. homes_stay key.size r.core c s.homes (n ∷ []) refl refl
                    (λ t z a b. elim z [ inl f ↦ out a (subst (λ y. InCell key.size (r.core.phase y) a) f b) | inr z2 ↦ z2 ])
                    (λ t z a b. elim z [ inl f ↦ subst (λ q. InCell key.size q a) there (subst (λ y. InCell key.size (c.phase y) a) f b) | inr z2 ↦ z2 ])
                    (λ t z. apart_once p t (λ f. z (inl f))) j (r.encoded.slots_are j lt);
              } in
              let q = block_steps (queue_object key.size key.seats) s r id m at law c [] (Each (post_to n p all)) step (80 + i) w keeps shows m.0.left (omega arith) (WaitsIn key.size key.seats n k x) waits in
              (sees m.0.names m.0.noted r.core.past (Each (post_to n p all)) m.0.left, keeps, tt, q.0, record { hit = λ h. absurd (turn (sym (turn_at k) ∙ h)); miss = λ _. q.1 }))
        ]

    pub fills_burst : (k : ℕ) (x : T) (v : ℕ) (tl : List (ℕ × Option T)) → IsPost n (StoreItem k x) all → m.1 ≡ (k % key.size, Some x) ∷ tl → v ≡ 2 * (k / key.size) + 1
        → Permits key s r id m at (80 + k % key.size) (λ _. v) (λ found after. FilledBurst key.size key.seats n k all m after)
    fills_burst k x v tl e held v_is =
        let i = k % key.size in
        let here = stands_here (StoreItem k x) e in
        let law = queue_law {T = T} key.size key.seats r.encoded.some_cell in
        let reached_begun = moves key.size r.core (from_itself key.size r.core) n (r.below id m.0 at n is_mine) (StoreItem k x) here in
        let c = record (with_phase r.core n (SetFull k x)) { cell = with_at r.core.cell i (Some x) } in
        let reached_next = moves key.size c reached_begun n (r.below id m.0 at n is_mine) (SetFull k x) (at_here r.core.phase n (SetFull k x)) in
        let d : QueueState T = move_from key.size c n (SetFull k x) in
        let turn' = with_at r.core.turn i (2 * (k / key.size) + 1) in
        let cell' = with_at r.core.cell i (Some x) in
        let new : List (Mark T) = mark n (made.Fill k) ∷ [] in
        let p : Phase T = EndInsert k in
        let there : d.phase n ≡ p = at_here (with_at r.core.phase n (SetFull k x)) n p in
        let only : (j : ℕ) → InCell key.size (r.core.phase n) j → j ≡ i = λ j a. sym (subst (λ p. InCell key.size p j) here a) in
        let inside : InCell key.size (r.core.phase n) i = subst (λ p. InCell key.size p i) (sym here) refl in
        let nowhere_then : (j : ℕ) → InCell key.size (d.phase n) j → ⊥ = λ j a. subst (λ p. InCell key.size p j) there a in
        let home : IsAtHome (turn' i) (cell' i) (some (some (Some x))) = record {
          odd = λ q f. ap (λ (y : Option T). some (some y)) (sym (at_here r.core.cell i (Some x)));
          even = λ q f. absurd (let t = at_here r.core.turn i (2 * (k / key.size) + 1) in omega (arith, t, f));
        } in
        let words = subst (λ z. AreWords key.size r.core.upper r.core.lower r.core.draws_in r.core.draws_out turn' r.core.shut (set s.words (80 + i) z)) (sym v_is)
        (words_turn key.size r.core.upper r.core.lower r.core.draws_in r.core.draws_out r.core.turn r.core.shut s.words r.encoded.words_are i (2 * (k / key.size) + 1) (near_of k)) in
        let others = apart_twice (SetFull k x) p in
        let step = name_step p d reached_next new refl (is_mine, tt) there others in
        let shows : IsEncoded key.size key.seats d r.notes (set s.words (80 + i) v) (set s.homes i (some (Some x))) = record {
          sleepers = sleepers_after key.seats key.size r.core d r.notes s.words (80 + i) v r.encoded.sleepers reached_next (omega arith) (let h = near_of k in omega arith);
          some_cell = r.encoded.some_cell;
          few_cells = r.encoded.few_cells;
          few_seats = r.encoded.few_seats;
          words_are = words;
          wide = length-set s.homes i (some (Some x)) ∙ r.encoded.wide;
          slots_are = gives_slot key.size n r.core s.homes r.encoded.wide r.encoded.slots_are d others r.encoded.some_cell r.reached.reached i (near_of k)
              (λ j ne. (at_else r.core.turn i j (2 * (k / key.size) + 1) ne, at_else r.core.cell i j (Some x) ne)) inside only nowhere_then (Some x) home;
        } in
        let gives_back : IsEncoded key.size key.seats d r.notes (set s.words (80 + i) v) (homes_after s.homes m.1 gives) = subst (λ l. IsEncoded key.size key.seats d r.notes (set s.words (80 + i) v) (homes_after s.homes l gives)) (sym held) shows in
        let q = block_steps (queue_object key.size key.seats) s r id m at law d new (Each (post_to n p all)) step (80 + i) v gives gives_back m.0.left (omega arith) (λ past. Unit {0}) tt in
        (sees m.0.names m.0.noted (new ++ r.core.past) (Each (post_to n p all)) m.0.left, gives, tt, q.0, q.1)

    pub turns_out_burst : (k : ℕ) → IsPost n (TurnOut k) all → Permits key s r id m at (80 + k % key.size) (λ w. w) (TurnedOutBurst key.size key.seats n k all m)
    turns_out_burst k e =
        let i = k % key.size in
        let w = slice_index s.words (80 + i) in
        let here = stands_here (TurnOut k) e in
        let law = queue_law {T = T} key.size key.seats r.encoded.some_cell in
        let reached_next = moves key.size r.core (from_itself key.size r.core) n (r.below id m.0 at n is_mine) (TurnOut k) here in
        let out : (j : ℕ) → InCell key.size (r.core.phase n) j → ⊥ = λ j a. subst (λ p. InCell key.size p j) here a in
        let same = words_same key.size r.core.upper r.core.lower r.core.draws_in r.core.draws_out r.core.turn r.core.shut s.words r.encoded.words_are (80 + i) in
        let getting : stage r.core.past n ≡ Getting k = sym ((K key s r id m at).phases n) ∙ ap shown here in
        elim (true_or_false (r.core.turn i == 2 * (k / key.size) + 1)) [
          | inl hit ↦ (
              let turn : r.core.turn i ≡ 2 * (k / key.size) + 1 = grind (arith, nat_tests) in
              let p : Phase T = LoadItem k in
              let c = with_phase r.core n p in
              let reached_here = if_true Leads (r.core.turn i == 2 * (k / key.size) + 1) _ _ hit reached_next in
              let there : c.phase n ≡ p = at_here r.core.phase n p in
              let inside : InCell key.size (c.phase n) i = subst (λ p. InCell key.size p i) (sym there) refl in
              let only : (j : ℕ) → InCell key.size (c.phase n) j → j ≡ i = λ j a. sym (subst (λ p. InCell key.size p j) there a) in
              let home = slot_there key.size n r.core s.homes r.encoded.wide r.encoded.slots_are c (apart_once p) r.encoded.some_cell (reached_after key.size r.core c r.reached.reached reached_here) out i (near_of k) inside in
              let loads : r.core.cell i ≡ item_of r.core.past k = loads_put key.size c n k (kept key.size c (reached_after key.size r.core c r.reached.reached reached_here) r.encoded.some_cell) there in
              let below = getting_below r.core.past n k getting in
              let counts = (contents_bounded key.size r.core.past (K key s r id m at).legal).0 in
              let it = item_there r.core.past k (omega (arith, below, counts)) in
              let step = name_step p c reached_here [] refl tt there (apart_once p) in
              let shows : IsEncoded key.size key.seats c r.notes (set s.words (80 + i) w) (set s.homes i none) = record {
                sleepers = sleepers_after key.seats key.size r.core c r.notes s.words (80 + i) w r.encoded.sleepers reached_here (omega arith) (let h = near_of k in omega arith);
                some_cell = r.encoded.some_cell;
                few_cells = r.encoded.few_cells;
                few_seats = r.encoded.few_seats;
                words_are = same;
                wide = length-set s.homes i none ∙ r.encoded.wide;
                slots_are = takes_slot key.size n r.core s.homes r.encoded.wide r.encoded.slots_are c (apart_once p) refl refl out i (near_of k) inside only;
              } in
              let q = block_steps (queue_object key.size key.seats) s r id m at law c [] (Each (post_to n p all)) step (80 + i) w (takes i (Some it.0)) shows m.0.left (omega arith) (λ past. item_at (items_put (reverse past)) k ≡ Some it.0) (item_past r.core.past k ∙ it.1) in (
                sees m.0.names m.0.noted r.core.past (Each (post_to n p all)) m.0.left,
                takes i (Some it.0),
                home.odd (k / key.size) turn ∙ ap (λ (v : Option T). some (some v)) (loads ∙ it.1),
                q.0,
                record { hit = λ _. (it.0, q.1); miss = λ ne. absurd (ne (turn_at k ∙ turn)) },
              ))
          | inr far ↦ (
              let turn : r.core.turn i ≢ 2 * (k / key.size) + 1 = λ q. absurd (grind (arith, nat_tests)) in
              let p : Phase T = TurnOut k in
              let c = with_phase r.core n p in
              let reached_here = if_false Leads (r.core.turn i == 2 * (k / key.size) + 1) _ _ far reached_next in
              let wait = waits_take key.size r.core n k (K key s r id m at) getting turn in
              let waits : WaitsOut key.size key.seats n k r.core.past = record { getting = getting; unfilled = λ h. wait (has_back (made.Fill k) r.core.past h) } in
              let there : c.phase n ≡ p = at_here r.core.phase n p in
              let step = name_step p c reached_here [] refl tt there (apart_once p) in
              let shows : IsEncoded key.size key.seats c r.notes (set s.words (80 + i) w) s.homes = record {
                sleepers = sleepers_after key.seats key.size r.core c r.notes s.words (80 + i) w r.encoded.sleepers reached_here (omega arith) (let h = near_of k in omega arith);
                some_cell = r.encoded.some_cell;
                few_cells = r.encoded.few_cells;
                few_seats = r.encoded.few_seats;
                words_are = same;
                wide = r.encoded.wide;
                slots_are = λ j lt. homes_stay key.size r.core c s.homes (n ∷ []) refl refl
                    (λ t z a b. elim z [ inl f ↦ out a (subst (λ y. InCell key.size (r.core.phase y) a) f b) | inr z2 ↦ z2 ])
                    (λ t z a b. elim z [ inl f ↦ subst (λ q. InCell key.size q a) there (subst (λ y. InCell key.size (c.phase y) a) f b) | inr z2 ↦ z2 ])
                    (λ t z. apart_once p t (λ f. z (inl f))) j (r.encoded.slots_are j lt);
              } in
              let q = block_steps (queue_object key.size key.seats) s r id m at law c [] (Each (post_to n p all)) step (80 + i) w keeps shows m.0.left (omega arith) (WaitsOut key.size key.seats n k) waits in
              (sees m.0.names m.0.noted r.core.past (Each (post_to n p all)) m.0.left, keeps, tt, q.0, record { hit = λ h. absurd (turn (sym (turn_at k) ∙ h)); miss = λ _. q.1 }))
        ]

    pub frees_burst : (k v : ℕ) (tl : List (ℕ × Option T)) → IsPost n (LoadItem k) all → m.1 ≡ (k % key.size, None) ∷ tl → v ≡ 2 * (k / key.size) + 2
        → Permits key s r id m at (80 + k % key.size) (λ _. v) (λ found after. FreedBurst key.size key.seats n k all m after)
    frees_burst k v tl e held v_is =
        let i = k % key.size in
        let here = stands_here (LoadItem k) e in
        let law = queue_law {T = T} key.size key.seats r.encoded.some_cell in
        let reached_begun = moves key.size r.core (from_itself key.size r.core) n (r.below id m.0 at n is_mine) (LoadItem k) here in
        let c = with_phase r.core n (SetFree k) in
        let reached_next = moves key.size c reached_begun n (r.below id m.0 at n is_mine) (SetFree k) (at_here r.core.phase n (SetFree k)) in
        let d : QueueState T = move_from key.size c n (SetFree k) in
        let turn' = with_at r.core.turn i (2 * (k / key.size) + 2) in
        let new : List (Mark T) = mark n (made.Take k) ∷ [] in
        let p : Phase T = EndDelete k in
        let there : d.phase n ≡ p = at_here (with_at r.core.phase n (SetFree k)) n p in
        let only : (j : ℕ) → InCell key.size (r.core.phase n) j → j ≡ i = λ j a. sym (subst (λ p. InCell key.size p j) here a) in
        let inside : InCell key.size (r.core.phase n) i = subst (λ p. InCell key.size p i) (sym here) refl in
        let nowhere_then : (j : ℕ) → InCell key.size (d.phase n) j → ⊥ = λ j a. subst (λ p. InCell key.size p j) there a in
        let home : IsAtHome (turn' i) (r.core.cell i) (some (some None)) = record {
          odd = λ q f. absurd (let t = at_here r.core.turn i (2 * (k / key.size) + 2) in omega (arith, t, f));
          even = λ q f. refl;
        } in
        let words = subst (λ z. AreWords key.size r.core.upper r.core.lower r.core.draws_in r.core.draws_out turn' r.core.shut (set s.words (80 + i) z)) (sym v_is)
        (words_turn key.size r.core.upper r.core.lower r.core.draws_in r.core.draws_out r.core.turn r.core.shut s.words r.encoded.words_are i (2 * (k / key.size) + 2) (near_of k)) in
        let others = apart_twice (SetFree k) p in
        let step = name_step p d reached_next new refl (is_mine, tt) there others in
        let shows : IsEncoded key.size key.seats d r.notes (set s.words (80 + i) v) (set s.homes i (some None)) = record {
          sleepers = sleepers_after key.seats key.size r.core d r.notes s.words (80 + i) v r.encoded.sleepers reached_next (omega arith) (let h = near_of k in omega arith);
          some_cell = r.encoded.some_cell;
          few_cells = r.encoded.few_cells;
          few_seats = r.encoded.few_seats;
          words_are = words;
          wide = length-set s.homes i (some None) ∙ r.encoded.wide;
          slots_are = gives_slot key.size n r.core s.homes r.encoded.wide r.encoded.slots_are d others r.encoded.some_cell r.reached.reached i (near_of k)
              (λ j ne. (at_else r.core.turn i j (2 * (k / key.size) + 2) ne, refl)) inside only nowhere_then None home;
        } in
        let gives_back : IsEncoded key.size key.seats d r.notes (set s.words (80 + i) v) (homes_after s.homes m.1 gives) = subst (λ l. IsEncoded key.size key.seats d r.notes (set s.words (80 + i) v) (homes_after s.homes l gives)) (sym held) shows in
        let q = block_steps (queue_object key.size key.seats) s r id m at law d new (Each (post_to n p all)) step (80 + i) v gives gives_back m.0.left (omega arith) (λ past. Unit {0}) tt in
        (sees m.0.names m.0.noted (new ++ r.core.past) (Each (post_to n p all)) m.0.left, gives, tt, q.0, q.1)
