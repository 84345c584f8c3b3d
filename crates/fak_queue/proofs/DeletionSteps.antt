-- Each atomic step of a deletion keeps what the queue shows, and tells what it did.
use Rattle.fak_model.specs.declared.queue.Kind.TheVariants as made
use Rattle.fak_core.specs.declared.queue.phase.Phase.TheVariants.{Idle, TestLow, SubLow, BackLow, TicketOut, TurnOut, LoadItem, SetFree, EndDelete}
use Rattle.fak_core.specs.QueueMoves.{QueueState, with_at, with_phase, moved, ticket_out}
use Rattle.fak_core.specs.QueueSchedule.{InCell, move_from}
use Rattle.fak_queue.proofs.Common.{IsReachedFrom, from_itself, reached_after, sleepers_after, Alike, LowerCount, QueueLimits, QueueHolder, IsAtHome, IsEncoded, queue_object, IsShownQueue, ◌≡◌, ◌≢◌, ℕ, ◌+◌, ◌-◌, ◌*◌, ◌/◌, ◌%◌, ◌^◌, ◌<◌, ◌==◌, List, [], ◌∷◌, ◌++◌, slice_index, set, refl, sym, ap, ◌∙◌, subst, inl, inr, arith, length-set, Option, Some, None, ℤ, pos, int_lt, mod-eq_of_lt, reverse, reverse-reverse, nat_tests, some, none, get_elem?, count, gots, lower_count, items_put, item_at, stage, item_of, sight, keeps, takes, gives, homes_after, Mark, Getting, count_reverse, has_back, item_same, contents_bounded, item_there, getting_below, steps, Phase, shown, at_here, at_else, waits_take, true_or_false, if_true, if_false, kept, moves, deletes, loads_put, draws_put, AreWords, IsLowerCount, mark, TellsNothing, TestedLow, SubtractedLow, BacksLow, DrawsOut, WaitsOut, TurnedOut, FreedCell, EndsOut, QueueMove}
use Rattle.fak_queue.proofs.WordWrites.{positive_word, empty_word, only_positive, only_empty, words_draws_out}
use Rattle.fak_queue.proofs.Slots.{takes_slot, gives_slot, slot_there}
use Rattle.fak_queue.proofs.Stepping.{QueueTable, queue_law, Permits, K, one_of, stands, outside, lower_past, loaded, upper_shrunk, lower_grown, lower_shrunk, few_draws, near, turn_is, turn_set, apart1, apart2, here1, here2, advances, quiet_step}

-- the item of a ticket in a past, oldest mark first
pub item_past : {T : Type 0} (past : List (Mark T)) (k : ℕ) → item_at (items_put (reverse past)) k ≡ item_of past k
item_past past k = item_same k (reverse past) ∙ ap (λ h. item_of h k) (reverse-reverse past)

module _ {T : Type 0} (key : QueueLimits) (s : QueueTable T) (r : IsShownQueue key s) (id n : ℕ) (m : QueueHolder T) (at : get_elem? s.views id ≡ some m.0) (one : m.0.names ≡ n ∷ []) where
  abbrev Step : ℕ → (ℕ → ℕ) → (ℕ → QueueHolder T → Type 0) → Type 0
  Step i f then = Permits key s r id n m at one i f then

  -- a move of the seat from the state c leads to a reached state
  abbrev Leads : QueueState T → QueueMove T → Type 0
  Leads c o = IsReachedFrom key.seats key.size r.core (moved c n o)

  -- the seat after a step with these marks
  abbrev After : List (Mark T) → Phase T → QueueHolder T
  After new p = (sight m.0.names m.0.noted (new ++ r.core.past) p m.0.left, m.1)

  pub tests_low : m.0.phase ≡ Some (Alike Idle) → Step 32 (λ w. w) (λ found after. (l : LowerCount) → IsLowerCount found l → TestedLow key.size key.seats n l m after)
  tests_low e =
      let c = with_phase r.core n TestLow in
      let reached_begun = deletes key.size r.core (from_itself key.size r.core) n (one_of key s r id n m at one) (stands key s r id n m at one Idle e) in
      let reached_next = moves key.size c reached_begun n (one_of key s r id n m at one) TestLow (here1 key s r id n m at one TestLow) in
      let w = slice_index s.words 32 in
      let word = r.encoded.words_are.lower_is in
      let out = outside key s r id n m at one Idle e (λ i j. j) in
      let phases = apart2 key s r id n m at one TestLow in
      let here = here2 key s r id n m at one TestLow in
      let Then : QueueHolder T → LowerCount → Type 0 = λ after l. TestedLow key.size key.seats n l m after in
      elim (true_or_false (int_lt (pos 0) r.core.lower)) [
        | inl lt ↦ (
            let reached_here = if_true (Leads c) (int_lt (pos 0) r.core.lower) _ _ lt reached_next in
            let q = quiet_step key s r id n m at one _ reached_here [] refl tt (phases SubLow) refl refl out 32 (omega arith, omega arith) w (loaded key s r id n m at one 32) SubLow (here SubLow) (λ i j. j) m.0.left (omega arith) TellsNothing tt in
            (sight m.0.names m.0.noted r.core.past SubLow m.0.left, keeps, tt, q.0, only_positive (Then (After [] SubLow)) w (positive_word w r.core.lower word lt) q.1))
        | inr ge ↦ (
            let reached_here = if_false (Leads c) (int_lt (pos 0) r.core.lower) _ _ ge reached_next in
            let new : List (Mark T) = mark n made.NoItem ∷ [] in
            let q : (v : ℤ) → v ≡ r.core.lower → _ = λ v f. quiet_step key s r id n m at one _ reached_here new refl (refl, tt) (phases Idle) refl refl out 32 (omega arith, omega arith) w (loaded key s r id n m at one 32) Idle (here Idle) (λ i j. j) m.0.left (omega arith)
            (λ past. v ≡ lower_count (reverse past)) (f ∙ lower_past key s r id n m at one) in
            (sight m.0.names m.0.noted (new ++ r.core.past) Idle m.0.left, keeps, tt, (q r.core.lower refl).0, only_empty (Then (After new Idle)) w r.core.lower (empty_word w r.core.lower word ge) word (λ v f. (q v f).1)))
      ]

  pub subtracts_low : m.0.phase ≡ Some (Alike SubLow) → Step 32 (λ w. (w + (2 ^ 64 - 1)) % 2 ^ 64) (λ found after. (l : LowerCount) → IsLowerCount found l → SubtractedLow key.size key.seats n l m after)
  subtracts_low e =
      let reached_next = moves key.size r.core (from_itself key.size r.core) n (one_of key s r id n m at one) SubLow (stands key s r id n m at one SubLow e) in
      let w = slice_index s.words 32 in
      let w' = (w + (2 ^ 64 - 1)) % 2 ^ 64 in
      let word = r.encoded.words_are.lower_is in
      let words = lower_shrunk key s r id n m at one in
      let out = outside key s r id n m at one SubLow e (λ i j. j) in
      let Then : QueueHolder T → LowerCount → Type 0 = λ after l. SubtractedLow key.size key.seats n l m after in
      elim (true_or_false (int_lt (pos 0) r.core.lower)) [
        | inl lt ↦ (
            let reached_here = if_true (Leads r.core) (int_lt (pos 0) r.core.lower) _ _ lt reached_next in
            let new : List (Mark T) = mark n made.ClaimOut ∷ [] in
            let q = quiet_step key s r id n m at one _ reached_here new refl (refl, tt) (apart1 key s r id n m at one TicketOut) refl refl out 32 (omega arith, omega arith) w' words TicketOut (here1 key s r id n m at one TicketOut) (λ i j. j) m.0.left (omega arith) TellsNothing tt in
            (sight m.0.names m.0.noted (new ++ r.core.past) TicketOut m.0.left, keeps, tt, q.0, only_positive (Then (After new TicketOut)) w (positive_word w r.core.lower word lt) q.1))
        | inr ge ↦ (
            let reached_here = if_false (Leads r.core) (int_lt (pos 0) r.core.lower) _ _ ge reached_next in
            let new : List (Mark T) = mark n made.OverOut ∷ [] in
            let q : (v : ℤ) → v ≡ r.core.lower → _ = λ v f. quiet_step key s r id n m at one _ reached_here new refl (refl, tt) (apart1 key s r id n m at one BackLow) refl refl out 32 (omega arith, omega arith) w' words BackLow (here1 key s r id n m at one BackLow) (λ i j. j) m.0.left (omega arith)
            (λ past. v ≡ lower_count (reverse past)) (f ∙ lower_past key s r id n m at one) in
            (sight m.0.names m.0.noted (new ++ r.core.past) BackLow m.0.left, keeps, tt, (q r.core.lower refl).0, only_empty (Then (After new BackLow)) w r.core.lower (empty_word w r.core.lower word ge) word (λ v f. (q v f).1)))
      ]

  pub backs_low : m.0.phase ≡ Some (Alike BackLow) → Step 32 (λ w. (w + 1) % 2 ^ 64) (λ found after. BacksLow key.size key.seats n m after)
  backs_low e =
      let R = moves key.size r.core (from_itself key.size r.core) n (one_of key s r id n m at one) BackLow (stands key s r id n m at one BackLow e) in
      let new : List (Mark T) = mark n made.BackOut ∷ [] in
      let q = quiet_step key s r id n m at one _ R new refl (refl, tt) (apart1 key s r id n m at one Idle) refl refl (outside key s r id n m at one BackLow e (λ i j. j)) 32 (omega arith, omega arith) _ (lower_grown key s r id n m at one) Idle (here1 key s r id n m at one Idle) (λ i j. j) m.0.left (omega arith) TellsNothing tt in
      (sight m.0.names m.0.noted (new ++ r.core.past) Idle m.0.left, keeps, tt, q.0, q.1)

  pub draws_out : m.0.phase ≡ Some (Alike TicketOut) → 0 < m.0.left → Step 64 (λ w. (w + 1) % 2 ^ 64) (DrawsOut key.size key.seats n m)
  draws_out e left =
      let w = slice_index s.words 64 in
      let is : w ≡ r.core.draws_out = r.encoded.words_are.draws_out_is in
      let few = (few_draws key s r id n m at one left).1 in
      let next : (w + 1) % 2 ^ 64 ≡ r.core.draws_out + 1 = mod-eq_of_lt (omega (arith, is, few)) ∙ omega (arith, is) in
      let R = moves key.size r.core (from_itself key.size r.core) n (one_of key s r id n m at one) TicketOut (stands key s r id n m at one TicketOut e) in
      let it = draws_put key.size r.core n (K key s r id n m at one) (stands key s r id n m at one TicketOut e) in
      let reached_here = subst (λ o. Leads r.core (ticket_out r.core.draws_out o)) it.1 R in
      let words = subst (λ i. AreWords key.size r.core.upper r.core.lower r.core.draws_in i r.core.turn r.core.shut (set s.words 64 ((w + 1) % 2 ^ 64))) next
      (words_draws_out key.size r.core.upper r.core.lower r.core.draws_in r.core.draws_out r.core.turn r.core.shut s.words r.encoded.words_are ((w + 1) % 2 ^ 64)) in
      let p : Phase T = TurnOut r.core.draws_out in
      let new : List (Mark T) = mark n (made.Got it.0) ∷ [] in
      let q = quiet_step key s r id n m at one _ reached_here new refl (refl, tt) (apart1 key s r id n m at one p) refl refl (outside key s r id n m at one TicketOut e (λ i j. j)) 64 (omega arith, omega arith) _ words
      (TurnOut w) (here1 key s r id n m at one p ∙ ap (λ k. TurnOut k) (sym is)) (λ i j. j) (m.0.left - 1) (omega (arith, left)) (λ past. (count gots (reverse past) ≡ w) × (item_at (items_put (reverse past)) w ≡ Some it.0)) (count_reverse gots r.core.past ∙ (sym (K key s r id n m at one).draws_out ∙ sym is), item_past r.core.past w ∙ (ap (item_of r.core.past) is ∙ it.1)) in
      (sight m.0.names m.0.noted (new ++ r.core.past) (TurnOut w) (m.0.left - 1), keeps, tt, q.0, record { item = it.0; leaves = q.1; few = omega (arith, is, few) })

  pub turns_out : (k : ℕ) → m.0.phase ≡ Some (Alike (TurnOut k)) → Step (80 + k % key.size) (λ w. w) (TurnedOut key.size key.seats n k m)
  turns_out k e =
      let i = k % key.size in
      let w = slice_index s.words (80 + i) in
      let is = turn_is key s r id n m at one k in
      let reached_next = moves key.size r.core (from_itself key.size r.core) n (one_of key s r id n m at one) (TurnOut k) (stands key s r id n m at one (TurnOut k) e) in
      let out = outside key s r id n m at one (TurnOut k) e (λ i j. j) in
      let gets : stage r.core.past n ≡ Getting k = sym ((K key s r id n m at one).phases n) ∙ ap shown (stands key s r id n m at one (TurnOut k) e) in
      elim (true_or_false (r.core.turn i == 2 * (k / key.size) + 1)) [
        | inl hit ↦ (
            let turn : r.core.turn i ≡ 2 * (k / key.size) + 1 = grind (arith, nat_tests) in
            let c = with_phase r.core n (LoadItem k) in
            let reached_here = if_true (Leads r.core) (r.core.turn i == 2 * (k / key.size) + 1) _ _ hit reached_next in
            let others = apart1 key s r id n m at one (LoadItem k) in
            let inside : InCell key.size (c.phase n) i = subst (λ p. InCell key.size p i) (sym (here1 key s r id n m at one (LoadItem k))) refl in
            let stands_here : (j : ℕ) → InCell key.size (c.phase n) j → j ≡ i = λ j a. sym (subst (λ p. InCell key.size p j) (here1 key s r id n m at one (LoadItem k)) a) in
            let home = slot_there key.size n r.core s.homes r.encoded.wide r.encoded.slots_are c others r.encoded.some_cell (reached_after key.size r.core c r.reached.reached reached_here) out i (near key s r id n m at one k) inside in
            let loads : r.core.cell i ≡ item_of r.core.past k = loads_put key.size c n k (kept key.size c (reached_after key.size r.core c r.reached.reached reached_here) r.encoded.some_cell) (here1 key s r id n m at one (LoadItem k)) in
            let below = getting_below r.core.past n k gets in
            let counts = (contents_bounded key.size r.core.past (K key s r id n m at one).legal).0 in
            let it = item_there r.core.past k (omega (arith, below, counts)) in
            let step = advances key s r id n m at one c reached_here [] refl tt (LoadItem k) (here1 key s r id n m at one (LoadItem k)) others in
            let shows : IsEncoded key.size key.seats c r.notes (set s.words (80 + i) w) (set s.homes i none) = record {
              sleepers = sleepers_after key.seats key.size r.core c r.notes s.words (80 + i) w r.encoded.sleepers reached_here (omega arith) (let h = near key s r id n m at one k in omega arith);
              some_cell = r.encoded.some_cell;
              few_cells = r.encoded.few_cells;
              few_seats = r.encoded.few_seats;
              words_are = loaded key s r id n m at one (80 + i);
              wide = length-set s.homes i none ∙ r.encoded.wide;
              slots_are = takes_slot key.size n r.core s.homes r.encoded.wide r.encoded.slots_are c others refl refl out i (near key s r id n m at one k) inside stands_here;
            } in
            let q = steps (queue_object key.size key.seats) s r id n m at one (queue_law key.size key.seats r.encoded.some_cell) c [] (Alike (LoadItem k)) step (80 + i) w (takes i (Some it.0)) shows m.0.left (omega arith)
            (λ past. item_at (items_put (reverse past)) k ≡ Some it.0) (item_past r.core.past k ∙ it.1) in (
              sight m.0.names m.0.noted r.core.past (LoadItem k) m.0.left,
              takes i (Some it.0),
              home.odd (k / key.size) turn ∙ ap (λ (v : Option T). some (some v)) (loads ∙ it.1),
              q.0,
              record { hit = λ _. record { item = it.0; leaves = q.1 }; miss = λ ne. absurd (ne (is ∙ turn)) },
            ))
        | inr far ↦ (
            let turn : r.core.turn i ≢ 2 * (k / key.size) + 1 = λ q. absurd (grind (arith, nat_tests)) in
            let reached_here = if_false (Leads r.core) (r.core.turn i == 2 * (k / key.size) + 1) _ _ far reached_next in
            let wait = waits_take key.size r.core n k (K key s r id n m at one) gets turn in
            let waits : WaitsOut key.size key.seats n k r.core.past = record { getting = gets; unfilled = λ h. wait (has_back (made.Fill k) r.core.past h) } in
            let q = quiet_step key s r id n m at one _ reached_here [] refl tt (apart1 key s r id n m at one (TurnOut k)) refl refl out (80 + i) (omega arith, (let h = near key s r id n m at one k in omega arith)) w (loaded key s r id n m at one (80 + i)) (TurnOut k) (here1 key s r id n m at one (TurnOut k)) (λ i j. j) m.0.left (omega arith) (WaitsOut key.size key.seats n k) waits in
            (sight m.0.names m.0.noted r.core.past (TurnOut k) m.0.left, keeps, tt, q.0, record { hit = λ h. absurd (turn (sym is ∙ h)); miss = λ _. q.1 }))
      ]

  -- a store that gives the slot back, by two moves of the core
  pub stores_free : (k v : ℕ) (tl : List (ℕ × Option T)) → m.0.phase ≡ Some (Alike (LoadItem k)) → m.1 ≡ (k % key.size, None) ∷ tl → v ≡ 2 * (k / key.size) + 2
      → Step (80 + k % key.size) (λ _. v) (λ found after. FreedCell key.size key.seats n k m after)
  stores_free k v tl e held v_is =
      let i = k % key.size in
      let at_load = stands key s r id n m at one (LoadItem k) e in
      let reached_begun = moves key.size r.core (from_itself key.size r.core) n (one_of key s r id n m at one) (LoadItem k) at_load in
      let c = with_phase r.core n (SetFree k) in
      let reached_next = moves key.size c reached_begun n (one_of key s r id n m at one) (SetFree k) (here1 key s r id n m at one (SetFree k)) in
      let d : QueueState T = move_from key.size c n (SetFree k) in
      let turn' = with_at r.core.turn i (2 * (k / key.size) + 2) in
      let new : List (Mark T) = mark n (made.Take k) ∷ [] in
      let p : Phase T = EndDelete k in
      let mine : (j : ℕ) → InCell key.size (r.core.phase n) j → j ≡ i = λ j a. sym (subst (λ p. InCell key.size p j) at_load a) in
      let inside : InCell key.size (r.core.phase n) i = subst (λ p. InCell key.size p i) (sym at_load) refl in
      let nowhere : (j : ℕ) → InCell key.size (d.phase n) j → ⊥ = λ j a. subst (λ p. InCell key.size p j) (here2 key s r id n m at one (SetFree k) p) a in
      let home : IsAtHome (turn' i) (r.core.cell i) (some (some None)) = record {
        odd = λ q f. absurd (let t = at_here r.core.turn i (2 * (k / key.size) + 2) in omega (arith, t, f));
        even = λ q f. refl;
      } in
      let words = subst (λ z. AreWords key.size r.core.upper r.core.lower r.core.draws_in r.core.draws_out turn' r.core.shut (set s.words (80 + i) z)) (sym v_is) (turn_set key s r id n m at one k (2 * (k / key.size) + 2)) in
      let others = apart2 key s r id n m at one (SetFree k) p in
      let step = advances key s r id n m at one d reached_next new refl (refl, tt) p (here2 key s r id n m at one (SetFree k) p) others in
      let shows : IsEncoded key.size key.seats d r.notes (set s.words (80 + i) v) (set s.homes i (some None)) = record {
        sleepers = sleepers_after key.seats key.size r.core d r.notes s.words (80 + i) v r.encoded.sleepers reached_next (omega arith) (let h = near key s r id n m at one k in omega arith);
        some_cell = r.encoded.some_cell;
        few_cells = r.encoded.few_cells;
        few_seats = r.encoded.few_seats;
        words_are = words;
        wide = length-set s.homes i (some None) ∙ r.encoded.wide;
        slots_are = gives_slot key.size n r.core s.homes r.encoded.wide r.encoded.slots_are d others r.encoded.some_cell r.reached.reached i (near key s r id n m at one k) (λ j ne. (at_else r.core.turn i j (2 * (k / key.size) + 2) ne, refl)) inside mine nowhere None home;
      } in
      let gives_back : IsEncoded key.size key.seats d r.notes (set s.words (80 + i) v) (homes_after s.homes m.1 gives) = subst (λ l. IsEncoded key.size key.seats d r.notes (set s.words (80 + i) v) (homes_after s.homes l gives)) (sym held) shows in
      let q = steps (queue_object key.size key.seats) s r id n m at one (queue_law key.size key.seats r.encoded.some_cell) d new (Alike p) step (80 + i) v gives gives_back m.0.left (omega arith) TellsNothing tt in
      (sight m.0.names m.0.noted (new ++ r.core.past) p m.0.left, gives, tt, q.0, q.1)

  pub ends_out : (k : ℕ) → m.0.phase ≡ Some (Alike (EndDelete k)) → Step 16 (λ w. (w + (2 ^ 64 - 1)) % 2 ^ 64) (λ found after. EndsOut key.size key.seats n m after)
  ends_out k e =
      let R = moves key.size r.core (from_itself key.size r.core) n (one_of key s r id n m at one) (EndDelete k) (stands key s r id n m at one (EndDelete k) e) in
      let new : List (Mark T) = mark n made.EndOut ∷ [] in
      let q = quiet_step key s r id n m at one _ R new refl (refl, tt) (apart1 key s r id n m at one Idle) refl refl (outside key s r id n m at one (EndDelete k) e (λ i j. j)) 16 (omega arith, omega arith) _ (upper_shrunk key s r id n m at one) Idle (here1 key s r id n m at one Idle) (λ i j. j) m.0.left (omega arith) TellsNothing tt in
      (sight m.0.names m.0.noted (new ++ r.core.past) Idle m.0.left, keeps, tt, q.0, q.1)
