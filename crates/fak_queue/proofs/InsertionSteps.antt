-- Each atomic step of an insertion keeps what the queue shows, and tells what it did; so does shutting.
use Rattle.fak_model.specs.declared.queue.Kind.TheVariants as made
use Rattle.fak_core.specs.declared.queue.phase.Phase.TheVariants.{Idle, TestUp, AddUp, BackUp, TicketIn, TurnIn, StoreItem, SetFull, EndInsert, SetShut}
use Rattle.fak_queue.proofs.Common.{IsReachedFrom, from_itself, reached_after, sleepers_after, Alike, UpperCount, QueueLimits, AreWords, IsUpperCount, QueueHolder, IsAtHome, IsEncoded, queue_object, IsShownQueue, ◌≡◌, ◌≢◌, ℕ, ◌+◌, ◌-◌, ◌*◌, ◌/◌, ◌%◌, ◌^◌, ◌<◌, ◌==◌, true, List, [], ◌∷◌, ◌++◌, slice_index, set, refl, sym, ap, ◌∙◌, subst, inl, inr, arith, length-set, bit_or, Option, Some, None, ℤ, pos, int_lt, mod-eq_of_lt, reverse, nat_tests, some, none, get_elem?, count, puts, upper_count, Has, stage, sight, keeps, takes, gives, homes_after, Mark, Putting, count_reverse, has_reverse, has_back, steps, Phase, QueueState, with_at, with_phase, moved, InCell, move_from, shown, at_here, at_else, waits_fill, true_or_false, if_true, if_false, moves, inserts, closes, mark, TellsNothing, TestedUp, AddedUp, BacksUp, DrewIn, WaitsIn, TurnedIn, FilledCell, EndsIn, Shuts, QueueMove}
use Rattle.fak_queue.proofs.WordWrites.{below_word, full_word, shut_above, open_below, only_shut, only_below, only_full, shut_word, words_upper, words_draws_in}
use Rattle.fak_queue.proofs.Slots.{takes_slot, gives_slot, slot_there}
use Rattle.fak_queue.proofs.Stepping.{QueueTable, queue_law, Permits, K, one_of, stands, outside, upper_most, upper_bounds, upper_shut, upper_open, upper_past, loaded, upper_grown, upper_shrunk, lower_grown, few_draws, near, turn_is, turn_set, apart1, apart2, here1, here2, advances, quiet_step}

module _ {T : Type 0} (key : QueueLimits) (s : QueueTable T) (r : IsShownQueue key s) (id n : ℕ) (m : QueueHolder T) (at : get_elem? s.views id ≡ some m.0) (one : m.0.names ≡ n ∷ []) where
  abbrev Step : ℕ → (ℕ → ℕ) → (ℕ → QueueHolder T → Type 0) → Type 0
  Step i f then = Permits key s r id n m at one i f then

  -- a move of the seat from the state c leads to a reached state
  abbrev Leads : QueueState T → QueueMove T → Type 0
  Leads c o = IsReachedFrom key.seats key.size r.core (moved c n o)

  -- the seat after a step with these marks
  abbrev After : List (Mark T) → Phase T → QueueHolder T
  After new p = (sight m.0.names m.0.noted (new ++ r.core.past) p m.0.left, m.1)

  pub tests_up : (x : T) → m.0.phase ≡ Some (Alike Idle) → Step 16 (λ w. w) (λ found after. (u : UpperCount) → IsUpperCount key.size found u → TestedUp key.size key.seats n x u m after)
  tests_up x e =
      let c = with_phase r.core n (TestUp x) in
      let reached_begun = inserts key.size r.core (from_itself key.size r.core) n (one_of key s r id n m at one) x (stands key s r id n m at one Idle e) in
      let reached_next = moves key.size c reached_begun n (one_of key s r id n m at one) (TestUp x) (here1 key s r id n m at one (TestUp x)) in
      let w = slice_index s.words 16 in
      let b = upper_bounds key s r id n m at one in
      let most = upper_most key s r id n m at one in
      let out = outside key s r id n m at one Idle e (λ i j. j) in
      let phases = apart2 key s r id n m at one (TestUp x) in
      let here = here2 key s r id n m at one (TestUp x) in
      let same = loaded key s r id n m at one 16 in
      let Then : QueueHolder T → UpperCount → Type 0 = λ after u. TestedUp key.size key.seats n x u m after in
      elim (true_or_false r.core.shut) [
        | inl shut ↦ (
            let reached_here = if_true (Leads c) r.core.shut _ _ shut reached_next in
            let new : List (Mark T) = mark n made.Closed ∷ [] in
            let q = quiet_step key s r id n m at one _ reached_here new refl (refl, tt) (phases Idle) refl refl out 16 (omega arith, omega arith) w same Idle (here Idle) (λ i j. j) m.0.left (omega arith) TellsNothing tt in
            let high = shut_above w 0 most r.core.upper (upper_shut key s r id n m at one shut) b.0 (omega arith) in
            (sight m.0.names m.0.noted (new ++ r.core.past) Idle m.0.left, keeps, tt, q.0, only_shut (Then (After new Idle)) key.size w r.encoded.few_cells high q.1))
        | inr opn ↦ (
            let reached_here = if_false (Leads c) r.core.shut _ _ opn reached_next in
            let word = upper_open key s r id n m at one opn in
            elim (true_or_false (int_lt r.core.upper (pos key.size))) [
              | inl lt ↦ (
                  let reached_last = if_true (Leads c) (int_lt r.core.upper (pos key.size)) _ _ lt reached_here in
                  let q = quiet_step key s r id n m at one _ reached_last [] refl tt (phases (AddUp x)) refl refl out 16 (omega arith, omega arith) w same (AddUp x) (here (AddUp x)) (λ i j. j) m.0.left (omega arith) TellsNothing tt in
                  let low = below_word w key.size r.core.upper word lt in
                  (sight m.0.names m.0.noted r.core.past (AddUp x) m.0.left, keeps, tt, q.0, only_below (Then (After [] (AddUp x))) key.size w r.encoded.few_cells low q.1))
              | inr ge ↦ (
                  let reached_last = if_false (Leads c) (int_lt r.core.upper (pos key.size)) _ _ ge reached_here in
                  let new : List (Mark T) = mark n made.NoRoom ∷ [] in
                  let q : (v : ℤ) → v ≡ r.core.upper → _ = λ v f. quiet_step key s r id n m at one _ reached_last new refl (refl, tt) (phases Idle) refl refl out 16 (omega arith, omega arith) w same Idle (here Idle) (λ i j. j) m.0.left (omega arith)
                  (λ past. v ≡ upper_count (reverse past)) (f ∙ upper_past key s r id n m at one) in
                  let high = full_word w key.size r.core.upper word ge in
                  let low = open_below w 0 most r.core.upper word b.0 b.1 in
                  (sight m.0.names m.0.noted (new ++ r.core.past) Idle m.0.left, keeps, tt, (q r.core.upper refl).0, only_full (Then (After new Idle)) key.size w r.core.upper high low word (λ v f. (q v f).1)))
            ])
      ]

  pub adds_up : (x : T) → m.0.phase ≡ Some (Alike (AddUp x)) → Step 16 (λ w. (w + 1) % 2 ^ 64) (λ found after. (u : UpperCount) → IsUpperCount key.size found u → AddedUp key.size key.seats n x u m after)
  adds_up x e =
      let reached_next = moves key.size r.core (from_itself key.size r.core) n (one_of key s r id n m at one) (AddUp x) (stands key s r id n m at one (AddUp x) e) in
      let w = slice_index s.words 16 in
      let w' = (w + 1) % 2 ^ 64 in
      let b = upper_bounds key s r id n m at one in
      let most = upper_most key s r id n m at one in
      let out = outside key s r id n m at one (AddUp x) e (λ i j. j) in
      let words = upper_grown key s r id n m at one in
      let Then : QueueHolder T → UpperCount → Type 0 = λ after u. AddedUp key.size key.seats n x u m after in
      elim (true_or_false r.core.shut) [
        | inl shut ↦ (
            let reached_here = if_true (Leads r.core) r.core.shut _ _ shut reached_next in
            let new : List (Mark T) = mark n made.LateIn ∷ [] in
            let q = quiet_step key s r id n m at one _ reached_here new refl (refl, tt) (apart1 key s r id n m at one (BackUp x)) refl refl out 16 (omega arith, omega arith) w' words (BackUp x) (here1 key s r id n m at one (BackUp x)) (λ i j. j) m.0.left (omega arith) TellsNothing tt in
            let high = shut_above w 0 most r.core.upper (upper_shut key s r id n m at one shut) b.0 (omega arith) in
            (sight m.0.names m.0.noted (new ++ r.core.past) (BackUp x) m.0.left, keeps, tt, q.0, only_shut (Then (After new (BackUp x))) key.size w r.encoded.few_cells high q.1))
        | inr opn ↦ (
            let reached_here = if_false (Leads r.core) r.core.shut _ _ opn reached_next in
            let word = upper_open key s r id n m at one opn in
            elim (true_or_false (int_lt r.core.upper (pos key.size))) [
              | inl lt ↦ (
                  let reached_last = if_true (Leads r.core) (int_lt r.core.upper (pos key.size)) _ _ lt reached_here in
                  let new : List (Mark T) = mark n made.ClaimIn ∷ [] in
                  let q = quiet_step key s r id n m at one _ reached_last new refl (refl, tt) (apart1 key s r id n m at one (TicketIn x)) refl refl out 16 (omega arith, omega arith) w' words (TicketIn x) (here1 key s r id n m at one (TicketIn x)) (λ i j. j) m.0.left (omega arith) TellsNothing tt in
                  let low = below_word w key.size r.core.upper word lt in
                  (sight m.0.names m.0.noted (new ++ r.core.past) (TicketIn x) m.0.left, keeps, tt, q.0, only_below (Then (After new (TicketIn x))) key.size w r.encoded.few_cells low q.1))
              | inr ge ↦ (
                  let reached_last = if_false (Leads r.core) (int_lt r.core.upper (pos key.size)) _ _ ge reached_here in
                  let new : List (Mark T) = mark n made.OverIn ∷ [] in
                  let q : (v : ℤ) → v ≡ r.core.upper → _ = λ v f. quiet_step key s r id n m at one _ reached_last new refl (refl, tt) (apart1 key s r id n m at one (BackUp x)) refl refl out 16 (omega arith, omega arith) w' words (BackUp x) (here1 key s r id n m at one (BackUp x)) (λ i j. j) m.0.left (omega arith)
                  (λ past. v ≡ upper_count (reverse past)) (f ∙ upper_past key s r id n m at one) in
                  let high = full_word w key.size r.core.upper word ge in
                  let low = open_below w 0 most r.core.upper word b.0 b.1 in
                  (sight m.0.names m.0.noted (new ++ r.core.past) (BackUp x) m.0.left, keeps, tt, (q r.core.upper refl).0, only_full (Then (After new (BackUp x))) key.size w r.core.upper high low word (λ v f. (q v f).1)))
            ])
      ]

  pub backs_up : (x : T) → m.0.phase ≡ Some (Alike (BackUp x)) → Step 16 (λ w. (w + (2 ^ 64 - 1)) % 2 ^ 64) (λ found after. BacksUp key.size key.seats n m after)
  backs_up x e =
      let R = moves key.size r.core (from_itself key.size r.core) n (one_of key s r id n m at one) (BackUp x) (stands key s r id n m at one (BackUp x) e) in
      let new : List (Mark T) = mark n made.BackIn ∷ [] in
      let q = quiet_step key s r id n m at one _ R new refl (refl, tt) (apart1 key s r id n m at one Idle) refl refl (outside key s r id n m at one (BackUp x) e (λ i j. j)) 16 (omega arith, omega arith) _ (upper_shrunk key s r id n m at one) Idle (here1 key s r id n m at one Idle) (λ i j. j) m.0.left (omega arith) TellsNothing tt in
      (sight m.0.names m.0.noted (new ++ r.core.past) Idle m.0.left, keeps, tt, q.0, q.1)

  pub draws_in : (x : T) → m.0.phase ≡ Some (Alike (TicketIn x)) → 0 < m.0.left → Step 48 (λ w. (w + 1) % 2 ^ 64) (DrewIn key.size key.seats n x m)
  draws_in x e left =
      let w = slice_index s.words 48 in
      let is : w ≡ r.core.draws_in = r.encoded.words_are.draws_in_is in
      let few = (few_draws key s r id n m at one left).0 in
      let next : (w + 1) % 2 ^ 64 ≡ r.core.draws_in + 1 = mod-eq_of_lt (omega (arith, is, few)) ∙ omega (arith, is) in
      let R = moves key.size r.core (from_itself key.size r.core) n (one_of key s r id n m at one) (TicketIn x) (stands key s r id n m at one (TicketIn x) e) in
      let words = subst (λ i. AreWords key.size r.core.upper r.core.lower i r.core.draws_out r.core.turn r.core.shut (set s.words 48 ((w + 1) % 2 ^ 64))) next
      (words_draws_in key.size r.core.upper r.core.lower r.core.draws_in r.core.draws_out r.core.turn r.core.shut s.words r.encoded.words_are ((w + 1) % 2 ^ 64)) in
      let p : Phase T = TurnIn r.core.draws_in x in
      let new : List (Mark T) = mark n (made.Put x) ∷ [] in
      let q = quiet_step key s r id n m at one _ R new refl (refl, tt) (apart1 key s r id n m at one p) refl refl (outside key s r id n m at one (TicketIn x) e (λ i j. j)) 48 (omega arith, omega arith) _ words
      (TurnIn w x) (here1 key s r id n m at one p ∙ ap (λ k. TurnIn k x) (sym is)) (λ i j. j) (m.0.left - 1) (omega (arith, left)) (λ past. count puts (reverse past) ≡ w) (count_reverse puts r.core.past ∙ (sym (K key s r id n m at one).draws_in ∙ sym is)) in
      (sight m.0.names m.0.noted (new ++ r.core.past) (TurnIn w x) (m.0.left - 1), keeps, tt, q.0, record { leaves = q.1; few = omega (arith, is, few) })

  pub turns_in : (k : ℕ) (x : T) → m.0.phase ≡ Some (Alike (TurnIn k x)) → Step (80 + k % key.size) (λ w. w) (TurnedIn key.size key.seats n k x m)
  turns_in k x e =
      let i = k % key.size in
      let w = slice_index s.words (80 + i) in
      let is = turn_is key s r id n m at one k in
      let reached_next = moves key.size r.core (from_itself key.size r.core) n (one_of key s r id n m at one) (TurnIn k x) (stands key s r id n m at one (TurnIn k x) e) in
      let out = outside key s r id n m at one (TurnIn k x) e (λ i j. j) in
      elim (true_or_false (r.core.turn i == 2 * (k / key.size))) [
        | inl hit ↦ (
            let turn : r.core.turn i ≡ 2 * (k / key.size) = grind (arith, nat_tests) in
            let c = with_phase r.core n (StoreItem k x) in
            let reached_here = if_true (Leads r.core) (r.core.turn i == 2 * (k / key.size)) _ _ hit reached_next in
            let others = apart1 key s r id n m at one (StoreItem k x) in
            let inside : InCell key.size (c.phase n) i = subst (λ p. InCell key.size p i) (sym (here1 key s r id n m at one (StoreItem k x))) refl in
            let stands_here : (j : ℕ) → InCell key.size (c.phase n) j → j ≡ i = λ j a. sym (subst (λ p. InCell key.size p j) (here1 key s r id n m at one (StoreItem k x)) a) in
            let home = slot_there key.size n r.core s.homes r.encoded.wide r.encoded.slots_are c others r.encoded.some_cell (reached_after key.size r.core c r.reached.reached reached_here) out i (near key s r id n m at one k) inside in
            let step = advances key s r id n m at one c reached_here [] refl tt (StoreItem k x) (here1 key s r id n m at one (StoreItem k x)) others in
            let shows : IsEncoded key.size key.seats c r.notes (set s.words (80 + i) w) (set s.homes i none) = record {
              sleepers = sleepers_after key.seats key.size r.core c r.notes s.words (80 + i) w r.encoded.sleepers reached_here (omega arith) (let h = near key s r id n m at one k in omega arith);
              some_cell = r.encoded.some_cell;
              few_cells = r.encoded.few_cells;
              few_seats = r.encoded.few_seats;
              words_are = loaded key s r id n m at one (80 + i);
              wide = length-set s.homes i none ∙ r.encoded.wide;
              slots_are = takes_slot key.size n r.core s.homes r.encoded.wide r.encoded.slots_are c others refl refl out i (near key s r id n m at one k) inside stands_here;
            } in
            let q = steps (queue_object key.size key.seats) s r id n m at one (queue_law key.size key.seats r.encoded.some_cell) c [] (Alike (StoreItem k x)) step (80 + i) w (takes i None) shows m.0.left (omega arith) TellsNothing tt in
            (sight m.0.names m.0.noted r.core.past (StoreItem k x) m.0.left, takes i None, home.even (k / key.size) turn, q.0, record { hit = λ _. q.1; miss = λ ne. absurd (ne (is ∙ turn)) }))
        | inr far ↦ (
            let turn : r.core.turn i ≢ 2 * (k / key.size) = λ q. absurd (grind (arith, nat_tests)) in
            let reached_here = if_false (Leads r.core) (r.core.turn i == 2 * (k / key.size)) _ _ far reached_next in
            let puts : stage r.core.past n ≡ Putting k x = sym ((K key s r id n m at one).phases n) ∙ ap shown (stands key s r id n m at one (TurnIn k x) e) in
            let wait = waits_fill key.size r.core n k x r.encoded.some_cell (K key s r id n m at one) puts turn in
            let waits : WaitsIn key.size key.seats n k x r.core.past = record { putting = puts; earlier = wait.0; round = wait.1; untaken = λ h. wait.2 (has_back (made.Take wait.0) r.core.past h) } in
            let q = quiet_step key s r id n m at one _ reached_here [] refl tt (apart1 key s r id n m at one (TurnIn k x)) refl refl out (80 + i) (omega arith, (let h = near key s r id n m at one k in omega arith)) w (loaded key s r id n m at one (80 + i)) (TurnIn k x) (here1 key s r id n m at one (TurnIn k x)) (λ i j. j) m.0.left (omega arith) (WaitsIn key.size key.seats n k x) waits in
            (sight m.0.names m.0.noted r.core.past (TurnIn k x) m.0.left, keeps, tt, q.0, record { hit = λ h. absurd (turn (sym is ∙ h)); miss = λ _. q.1 }))
      ]

  -- a store that gives the slot back, by two moves of the core
  pub stores_full : (k v : ℕ) (x : T) (tl : List (ℕ × Option T)) → m.0.phase ≡ Some (Alike (StoreItem k x)) → m.1 ≡ (k % key.size, Some x) ∷ tl → v ≡ 2 * (k / key.size) + 1
      → Step (80 + k % key.size) (λ _. v) (λ found after. FilledCell key.size key.seats n k m after)
  stores_full k v x tl e held v_is =
      let i = k % key.size in
      let at_store = stands key s r id n m at one (StoreItem k x) e in
      let reached_begun = moves key.size r.core (from_itself key.size r.core) n (one_of key s r id n m at one) (StoreItem k x) at_store in
      let c = record (with_phase r.core n (SetFull k x)) { cell = with_at r.core.cell i (Some x) } in
      let reached_next = moves key.size c reached_begun n (one_of key s r id n m at one) (SetFull k x) (here1 key s r id n m at one (SetFull k x)) in
      let d : QueueState T = move_from key.size c n (SetFull k x) in
      let turn' = with_at r.core.turn i (2 * (k / key.size) + 1) in
      let cell' = with_at r.core.cell i (Some x) in
      let new : List (Mark T) = mark n (made.Fill k) ∷ [] in
      let p : Phase T = EndInsert k in
      let mine : (j : ℕ) → InCell key.size (r.core.phase n) j → j ≡ i = λ j a. sym (subst (λ p. InCell key.size p j) at_store a) in
      let inside : InCell key.size (r.core.phase n) i = subst (λ p. InCell key.size p i) (sym at_store) refl in
      let nowhere : (j : ℕ) → InCell key.size (d.phase n) j → ⊥ = λ j a. subst (λ p. InCell key.size p j) (here2 key s r id n m at one (SetFull k x) p) a in
      let home : IsAtHome (turn' i) (cell' i) (some (some (Some x))) = record {
        odd = λ q f. ap (λ (y : Option T). some (some y)) (sym (at_here r.core.cell i (Some x)));
        even = λ q f. absurd (let t = at_here r.core.turn i (2 * (k / key.size) + 1) in omega (arith, t, f));
      } in
      let words = subst (λ z. AreWords key.size r.core.upper r.core.lower r.core.draws_in r.core.draws_out turn' r.core.shut (set s.words (80 + i) z)) (sym v_is) (turn_set key s r id n m at one k (2 * (k / key.size) + 1)) in
      let others = apart2 key s r id n m at one (SetFull k x) p in
      let step = advances key s r id n m at one d reached_next new refl (refl, tt) p (here2 key s r id n m at one (SetFull k x) p) others in
      let shows : IsEncoded key.size key.seats d r.notes (set s.words (80 + i) v) (set s.homes i (some (Some x))) = record {
        sleepers = sleepers_after key.seats key.size r.core d r.notes s.words (80 + i) v r.encoded.sleepers reached_next (omega arith) (let h = near key s r id n m at one k in omega arith);
        some_cell = r.encoded.some_cell;
        few_cells = r.encoded.few_cells;
        few_seats = r.encoded.few_seats;
        words_are = words;
        wide = length-set s.homes i (some (Some x)) ∙ r.encoded.wide;
        slots_are = gives_slot key.size n r.core s.homes r.encoded.wide r.encoded.slots_are d others r.encoded.some_cell r.reached.reached i (near key s r id n m at one k)
            (λ j ne. (at_else r.core.turn i j (2 * (k / key.size) + 1) ne, at_else r.core.cell i j (Some x) ne)) inside mine nowhere (Some x) home;
      } in
      let gives_back : IsEncoded key.size key.seats d r.notes (set s.words (80 + i) v) (homes_after s.homes m.1 gives) = subst (λ l. IsEncoded key.size key.seats d r.notes (set s.words (80 + i) v) (homes_after s.homes l gives)) (sym held) shows in
      let q = steps (queue_object key.size key.seats) s r id n m at one (queue_law key.size key.seats r.encoded.some_cell) d new (Alike p) step (80 + i) v gives gives_back m.0.left (omega arith) TellsNothing tt in
      (sight m.0.names m.0.noted (new ++ r.core.past) p m.0.left, gives, tt, q.0, q.1)

  pub ends_in : (k : ℕ) → m.0.phase ≡ Some (Alike (EndInsert k)) → Step 32 (λ w. (w + 1) % 2 ^ 64) (λ found after. EndsIn key.size key.seats n m after)
  ends_in k e =
      let R = moves key.size r.core (from_itself key.size r.core) n (one_of key s r id n m at one) (EndInsert k) (stands key s r id n m at one (EndInsert k) e) in
      let new : List (Mark T) = mark n made.EndIn ∷ [] in
      let q = quiet_step key s r id n m at one _ R new refl (refl, tt) (apart1 key s r id n m at one Idle) refl refl (outside key s r id n m at one (EndInsert k) e (λ i j. j)) 32 (omega arith, omega arith) _ (lower_grown key s r id n m at one) Idle (here1 key s r id n m at one Idle) (λ i j. j) m.0.left (omega arith) TellsNothing tt in
      (sight m.0.names m.0.noted (new ++ r.core.past) Idle m.0.left, keeps, tt, q.0, q.1)

  -- ---- shutting

  pub shuts : m.0.phase ≡ Some (Alike Idle) → Step 16 (λ w. bit_or w 9223372036854775808) (Shuts key.size key.seats n m)
  shuts e =
      let w = slice_index s.words 16 in
      let b = upper_bounds key s r id n m at one in
      let most = upper_most key s r id n m at one in
      let c = with_phase r.core n SetShut in
      let reached_begun = closes key.size r.core (from_itself key.size r.core) n (one_of key s r id n m at one) (stands key s r id n m at one Idle e) in
      let reached_next = moves key.size c reached_begun n (one_of key s r id n m at one) SetShut (here1 key s r id n m at one SetShut) in
      let new : List (Mark T) = mark n made.Close ∷ [] in
      let words = words_upper key.size r.core.upper r.core.lower r.core.draws_in r.core.draws_out r.core.turn r.core.shut s.words r.encoded.words_are _ r.core.upper true
      (shut_word r.core.shut w r.core.upper 0 most r.encoded.words_are.upper_is b.0 (omega arith) b.1) in
      let q : (tells : List (Mark T) → Type 0) → tells r.core.past → _ = λ tells told.
      quiet_step key s r id n m at one _ reached_next new refl (refl, tt) (apart2 key s r id n m at one SetShut Idle) refl refl (outside key s r id n m at one Idle e (λ i j. j)) 16 (omega arith, omega arith) (bit_or w 9223372036854775808) words Idle (here2 key s r id n m at one SetShut Idle) (λ i j. j) m.0.left (omega arith) tells told in (
        sight m.0.names m.0.noted (new ++ r.core.past) Idle m.0.left,
        keeps,
        tt,
        (q TellsNothing tt).0,
        elim (true_or_false r.core.shut) [
          | inl shut ↦ (
              let high = shut_above w 0 most r.core.upper (upper_shut key s r id n m at one shut) b.0 (omega arith) in
              record { first = λ l. absurd (omega (arith, high, l)); again = λ _. (q (λ past. Has made.Close (reverse past)) (has_reverse made.Close r.core.past ((K key s r id n m at one).closed.0 shut))).1 })
          | inr opn ↦ (
              let low = open_below w 0 most r.core.upper (upper_open key s r id n m at one opn) b.0 b.1 in
              record { first = λ _. (q (λ past. Has made.Close (reverse past) → ⊥) (λ h. (K key s r id n m at one).closed.1 opn (has_back made.Close r.core.past h))).1; again = λ h. absurd (omega (arith, low, h)) })
        ],
      )
