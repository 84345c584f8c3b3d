-- What a seat knows as it takes an atomic step, and the steps that take and give no slot.
use Rattle.fak_queue.proofs.Common.{IsReachedFrom, reached_after, sleepers_after, Alike, Each, Phases, StandsIn, QueueLimits, shut_part, AreWords, QueueView, QueueHolder, queue_object, IsShownQueue, ◌≡◌, ◌≢◌, ℕ, ◌+◌, ◌-◌, ◌%◌, ◌^◌, ◌<◌, ◌≤◌, List, [], ◌∷◌, ◌++◌, slice_index, set, refl, sym, ap, ◌∙◌, subst, inl, arith, mod-lt, Option, Some, true, false, ℤ, pos, ◌+ℤ◌, ◌-ℤ◌, reverse, All, All-head, All-tail, ints, some, get_elem?, count, puts, gots, upper_raise, upper_drop, lower_raise, lower_drop, upper_count, lower_count, SeatsBelow, In, sight, AreOwn, Leaves, bias, State, Act, keeps, stepped, carried_after, Valid, Mark, count_reverse, upper_range, lower_range, AreLawful, Advances, steps, total_at, Phase, QueueState, with_at, InCell, AreIdleFrom, IsKept, at_here, at_else, kept, legal_history}
use Rattle.fak_queue.proofs.WordWrites.{grown, shrunk, shut_part-small, words_same, words_upper, words_lower, words_turn}
use Rattle.fak_queue.proofs.Slots.{stays_home}

pub stands_else : {T : Type 0} (b c : QueueState T) (n : ℕ) → c.phase n ≡ b.phase n → (q : Phases T) → StandsIn b n q → StandsIn c n q
stands_else b c n e (Alike p) at = e ∙ at
stands_else b c n e (Each ps) at = λ p i. e ∙ at p i

abbrev pub QueueTable : Type 0 → Type 0
QueueTable T = State (Option T) (QueueView T)

-- reached states have legal histories
pub queue_law : {T : Type 0} (size seats : ℕ) → 0 < size → AreLawful (queue_object {T = T} size seats)
queue_law size seats some_cell c reached = legal_history size c (kept size c reached.reached some_cell)

pub below_of : {T : Type 0} (seats : ℕ) (h : List (Mark T)) → All (λ (m : Mark T). m.seat < seats) h → SeatsBelow seats h
below_of seats [] all = tt
below_of {T} seats (m ∷ h) all = let P : Mark T → Type 0 = λ (m : Mark T). m.seat < seats in (All-head P m h all, below_of seats h (All-tail P m h all))

pub upper_count-reverse : {T : Type 0} (h : List (Mark T)) → upper_count (reverse h) ≡ upper_count h
upper_count-reverse h = λ i. pos (count_reverse upper_raise h i) -ℤ pos (count_reverse upper_drop h i)

pub lower_count-reverse : {T : Type 0} (h : List (Mark T)) → lower_count (reverse h) ≡ lower_count h
lower_count-reverse h = λ i. pos (count_reverse lower_raise h i) -ℤ pos (count_reverse lower_drop h i)

module _ {T : Type 0} (key : QueueLimits) (s : QueueTable T) (r : IsShownQueue key s) (id n : ℕ) (m : QueueHolder T) (at : get_elem? s.views id ≡ some m.0) (one : m.0.names ≡ n ∷ []) where
  -- what `Allows` asks of a step
  abbrev pub Permits : ℕ → (ℕ → ℕ) → (ℕ → QueueHolder T → Type 0) → Type 0
  Permits i f then = (w : QueueView T) × (a : Act (Option T)) × Valid s.homes m.1 a × IsShownQueue key (stepped s i (f (slice_index s.words i)) id m.1 w a) × then (slice_index s.words i) (w, carried_after m.1 a)

  pub K : IsKept key.size r.core
  K = kept key.size r.core r.reached.reached r.encoded.some_cell

  -- the seat is at phase p
  pub stands : (p : Phase T) → m.0.phase ≡ Some (Alike p) → r.core.phase n ≡ p
  stands p e = r.stands id m.0 at n (subst (λ (names : List ℕ). In n names) (sym one) (inl refl)) (Alike p) e

  pub outside : (p : Phase T) → m.0.phase ≡ Some (Alike p) → ((i : ℕ) → InCell key.size p i → ⊥) → (i : ℕ) → InCell key.size (r.core.phase n) i → ⊥
  outside p e out i j = out i (subst (λ q. InCell key.size q i) (stands p e) j)

  -- its name belongs to a seat of the queue
  pub one_of : n < key.seats
  one_of = r.below id m.0 at n (subst (λ (names : List ℕ). In n names) (sym one) (inl refl))

  -- ---- the counts

  pub upper_most : ℕ
  upper_most = count upper_raise r.core.past - count upper_drop r.core.past

  pub upper_bounds : (pos 0 +ℤ r.core.upper ≡ pos upper_most) × (upper_most ≤ 100000000)
  unfolding upper_most
  upper_bounds =
      let g = upper_range key.size key.seats r.core.past K.legal (below_of key.seats r.core.past r.named) in
      (omega (arith, ints, K.upper, g.0), omega (arith, g.0, g.1, r.encoded.few_seats, r.encoded.few_cells))

  pub lower_most : ℕ
  lower_most = count lower_raise r.core.past + 1024 - count lower_drop r.core.past

  pub lower_bounds : (pos 1024 +ℤ r.core.lower ≡ pos lower_most) × (lower_most ≤ 100000000)
  unfolding lower_most
  lower_bounds =
      let g = lower_range key.size key.seats r.core.past K.legal (below_of key.seats r.core.past r.named) in
      (omega (arith, ints, K.lower, g.0, r.encoded.few_seats), omega (arith, g.0, g.1, r.encoded.few_seats, r.encoded.few_cells))

  -- the upper count's word in a shut queue, and in an open one
  pub upper_shut : r.core.shut ≡ true → pos (slice_index s.words 16) ≡ pos (shut_part true + bias) +ℤ r.core.upper
  upper_shut e = r.encoded.words_are.upper_is ∙ ap (λ b. pos (shut_part b + bias) +ℤ r.core.upper) e

  pub upper_open : r.core.shut ≡ false → pos (slice_index s.words 16) ≡ pos bias +ℤ r.core.upper
  upper_open e = r.encoded.words_are.upper_is ∙ ap (λ b. pos (shut_part b + bias) +ℤ r.core.upper) e

  pub upper_past : r.core.upper ≡ upper_count (reverse r.core.past)
  upper_past = K.upper ∙ sym (upper_count-reverse r.core.past)

  pub lower_past : r.core.lower ≡ lower_count (reverse r.core.past)
  lower_past = K.lower ∙ sym (lower_count-reverse r.core.past)

  -- the words of the core state with these counts
  abbrev pub WordsOf : ℤ → ℤ → List ℕ → Type 0
  WordsOf u l ws = AreWords key.size u l r.core.draws_in r.core.draws_out r.core.turn r.core.shut ws

  pub loaded : (j : ℕ) → WordsOf r.core.upper r.core.lower (set s.words j (slice_index s.words j))
  loaded j = words_same key.size r.core.upper r.core.lower r.core.draws_in r.core.draws_out r.core.turn r.core.shut s.words r.encoded.words_are j

  pub upper_grown : WordsOf (r.core.upper +ℤ pos 1) r.core.lower (set s.words 16 ((slice_index s.words 16 + 1) % 2 ^ 64))
  upper_grown = let b = upper_bounds in
      words_upper key.size r.core.upper r.core.lower r.core.draws_in r.core.draws_out r.core.turn r.core.shut s.words r.encoded.words_are _ (r.core.upper +ℤ pos 1) r.core.shut
      (grown (shut_part r.core.shut) (slice_index s.words 16) r.core.upper 0 upper_most (shut_part-small r.core.shut) r.encoded.words_are.upper_is b.0 (omega arith) b.1)

  pub upper_shrunk : WordsOf (r.core.upper -ℤ pos 1) r.core.lower (set s.words 16 ((slice_index s.words 16 + (2 ^ 64 - 1)) % 2 ^ 64))
  upper_shrunk = let b = upper_bounds in
      words_upper key.size r.core.upper r.core.lower r.core.draws_in r.core.draws_out r.core.turn r.core.shut s.words r.encoded.words_are _ (r.core.upper -ℤ pos 1) r.core.shut
      (shrunk (shut_part r.core.shut) (slice_index s.words 16) r.core.upper 0 upper_most (shut_part-small r.core.shut) r.encoded.words_are.upper_is b.0 (omega arith) b.1)

  pub lower_grown : WordsOf r.core.upper (r.core.lower +ℤ pos 1) (set s.words 32 ((slice_index s.words 32 + 1) % 2 ^ 64))
  lower_grown = let b = lower_bounds in
      words_lower key.size r.core.upper r.core.lower r.core.draws_in r.core.draws_out r.core.turn r.core.shut s.words r.encoded.words_are _ (r.core.lower +ℤ pos 1)
      (grown 0 (slice_index s.words 32) r.core.lower 1024 lower_most (omega arith) r.encoded.words_are.lower_is b.0 (omega arith) b.1)

  pub lower_shrunk : WordsOf r.core.upper (r.core.lower -ℤ pos 1) (set s.words 32 ((slice_index s.words 32 + (2 ^ 64 - 1)) % 2 ^ 64))
  lower_shrunk = let b = lower_bounds in
      words_lower key.size r.core.upper r.core.lower r.core.draws_in r.core.draws_out r.core.turn r.core.shut s.words r.encoded.words_are _ (r.core.lower -ℤ pos 1)
      (shrunk 0 (slice_index s.words 32) r.core.lower 1024 lower_most (omega arith) r.encoded.words_are.lower_is b.0 (omega arith) b.1)

  -- ---- tickets and turns

  pub few_draws : 0 < m.0.left → (r.core.draws_in < 2 ^ 50) × (r.core.draws_out < 2 ^ 50)
  few_draws left =
      let l = total_at (λ (v : QueueView T). v.left) s.views id m.0 at in
      (omega (arith, r.few, l, K.draws_in, left), omega (arith, r.few, l, K.draws_out, left))

  pub near : (k : ℕ) → k % key.size < key.size
  near k = mod-lt k r.encoded.some_cell

  pub turn_is : (k : ℕ) → slice_index s.words (80 + k % key.size) ≡ r.core.turn (k % key.size)
  turn_is k = r.encoded.words_are.turns_are (k % key.size) (near k)

  pub turn_set : (k v : ℕ) → AreWords key.size r.core.upper r.core.lower r.core.draws_in r.core.draws_out (with_at r.core.turn (k % key.size) v) r.core.shut (set s.words (80 + k % key.size) v)
  turn_set k v = words_turn key.size r.core.upper r.core.lower r.core.draws_in r.core.draws_out r.core.turn r.core.shut s.words r.encoded.words_are (k % key.size) v (near k)

  -- ---- phases

  -- another seat stays where it was, after one move and after two
  pub apart1 : (p : Phase T) (t : ℕ) → t ≢ n → with_at r.core.phase n p t ≡ r.core.phase t
  apart1 p t ne = at_else r.core.phase n t p ne

  pub apart2 : (p q : Phase T) (t : ℕ) → t ≢ n → with_at (with_at r.core.phase n p) n q t ≡ r.core.phase t
  apart2 p q t ne = at_else (with_at r.core.phase n p) n t q ne ∙ at_else r.core.phase n t p ne

  pub here1 : (p : Phase T) → with_at r.core.phase n p n ≡ p
  here1 p = at_here r.core.phase n p

  pub here2 : (p q : Phase T) → with_at (with_at r.core.phase n p) n q n ≡ q
  here2 p q = at_here (with_at r.core.phase n p) n q

  -- ---- steps

  -- a name beyond the queue's seats still has no call, since only this seat has moved
  beyond : (c : QueueState T) → ((t : ℕ) → t ≢ n → c.phase t ≡ r.core.phase t) → AreIdleFrom key.seats c
  beyond c others t far = others t (λ q. omega (arith, one_of, far, q)) ∙ r.reached.beyond t far

  -- the seat's step led to this state and left these marks, newest first
  pub advances : (c : QueueState T) → IsReachedFrom key.seats key.size r.core c → (new : List (Mark T)) → c.past ≡ new ++ r.core.past → AreOwn (λ (w : Mark T). w.seat) n new → (p : Phase T) → c.phase n ≡ p
      → ((t : ℕ) → t ≢ n → c.phase t ≡ r.core.phase t) → Advances (queue_object key.size key.seats) r.core n c new (Alike p)
  advances c reached new past own p here others = record { reached = record { reached = reached_after key.size r.core c r.reached.reached reached; beyond = beyond c others }; past = past; own = own; stands = here; others = λ t q ne e. stands_else r.core c t (others t ne) q e }

  -- a step on a word that takes and gives no slot
  pub quiet_step : (c : QueueState T) → IsReachedFrom key.seats key.size r.core c → (new : List (Mark T)) → c.past ≡ new ++ r.core.past → AreOwn (λ (w : Mark T). w.seat) n new
      → ((t : ℕ) → t ≢ n → c.phase t ≡ r.core.phase t) → c.turn ≡ r.core.turn → c.cell ≡ r.core.cell → ((i : ℕ) → InCell key.size (r.core.phase n) i → ⊥)
      → (i : ℕ) → (16 ≤ i) × (i < 80 + key.size) → (w : ℕ) → AreWords key.size c.upper c.lower c.draws_in c.draws_out c.turn c.shut (set s.words i w) → (p : Phase T) → c.phase n ≡ p → ((j : ℕ) → InCell key.size p j → ⊥) → (left : ℕ)
      → (count puts c.past + count gots c.past) + left ≤ (count puts r.core.past + count gots r.core.past) + m.0.left → (tells : List (Mark T) → Type 0) → tells r.core.past
      → let v = sight m.0.names m.0.noted (new ++ r.core.past) p left in
      IsShownQueue key (stepped s i w id m.1 v keeps) × Leaves (queue_object key.size key.seats) m new p left m.1 tells (v, m.1)
  quiet_step c reached new past own phases turn cell out i fit w words p here nowhere left few tells told =
      steps (queue_object key.size key.seats) s r id n m at one (queue_law key.size key.seats r.encoded.some_cell) c new (Alike p) (advances c reached new past own p here phases) i w keeps
      record {
        some_cell = r.encoded.some_cell;
        few_cells = r.encoded.few_cells;
        few_seats = r.encoded.few_seats;
        words_are = words;
        sleepers = sleepers_after key.seats key.size r.core c r.notes s.words i w r.encoded.sleepers reached fit.0 fit.1;
        wide = r.encoded.wide;
        slots_are = stays_home key.size n r.core s.homes r.encoded.wide r.encoded.slots_are c phases turn cell out (λ j inside. nowhere j (subst (λ q. InCell key.size q j) here inside));
      }
      left few tells told
