-- A block of steps of a bundle keeps what the table shows.
use Rattle.atomic_table.specs.Table.{rest}
use Rattle.fak_model.specs.Views.{sight as sees}
use Rattle.fak_model.specs.Shown.{Leaves}
use Rattle.fak_model.proofs.RunningBlocks.{AreAmong, BlockAdvances, block_steps}
use Rattle.fak_core.specs.QueueBlocks.{Posts, names_of, AreApart, Stand, block, all_at, Changes}
use Rattle.fak_queue.proofs.ReachedFrom.{reached_block}
use Rattle.fak_core.proofs.QueueBlocks.{names-at, stand_on, stand_both}
use Rattle.fak_queue.specs.Bursts.{AllIn, AreDisjoint, Says, SaysAfter, TellsLower}
use Rattle.fak_queue.proofs.Common.{IsReachedFrom, from_itself, reached_after, sleepers_after, StandsIn, QueueView, QueueHolder, IsPost, queue_object, IsShownQueue, QueueLimits, AreWords, IsEncoded, ◌≡◌, ℕ, ◌+◌, ◌-◌, ◌%◌, ◌^◌, ◌<◌, ◌≤◌, List, [], ◌∷◌, ◌++◌, slice_index, set, refl, sym, ap, ◌∙◌, subst, inl, inr, arith, Option, Some, Bool, ℤ, pos, ◌+ℤ◌, ints, bias, shut_part, upper_raise, upper_drop, upper_range, lower_raise, lower_drop, lower_range, ◌-ℤ◌, Phases, Each, some, get_elem?, count, In, Act, keeps, stepped, carried_after, Valid, Mark, total_at, Phase, QueueState, InCell, IsKept, kept}
use Rattle.fak_queue.proofs.WordWrites.{shut_part-small, words_upper, words_lower}
use Rattle.fak_queue.proofs.Stepping.{QueueTable, queue_law, stands_else, below_of, lower_count-reverse}
use Rattle.fak_queue.proofs.BurstPosts.{AreOut, all_left, all_right, in_all, nowhere, out_at, post_left, post_right, says_of}
use Rattle.fak_queue.proofs.BurstWords.{grown_by, grown_low, homes_stay, shrunk_by, shrunk_low}

module _ {T : Type 0} (key : QueueLimits) (s : QueueTable T) (r : IsShownQueue key s) (id : ℕ) (m : QueueHolder T) (at : get_elem? s.views id ≡ some m.0) where
  abbrev pub Permits : ℕ → (ℕ → ℕ) → (ℕ → QueueHolder T → Type 0) → Type 0
  Permits i f then = (w : QueueView T) × (a : Act (Option T)) × Valid s.homes m.1 a × IsShownQueue key (stepped s i (f (slice_index s.words i)) id m.1 w a) × then (slice_index s.words i) (w, carried_after m.1 a)

  pub K : IsKept key.size r.core
  K = kept key.size r.core r.reached.reached r.encoded.some_cell

  -- the posts that the view states
  pub posted : (all ps : Posts T) → m.0.phase ≡ Some (Each all) → ((n : ℕ) (p : Phase T) → IsPost n p ps → IsPost n p all) → AllIn (names_of ps) m.0.names → Stand r.core ps
  posted all [] e among inn = tt
  posted all (q ∷ ps) e among inn = (r.stands id m.0 at q.0 inn.0 (Each all) e q.1 (among q.0 q.1 (inl (refl, refl))), posted all ps e (λ n p i. among n p (inr i)) inn.1)

  -- its names belong to seats of the queue
  pub lows : (names : List ℕ) → AllIn names m.0.names → (k : ℕ) → In k names → k < key.seats
  lows names inn k i = r.below id m.0 at k (in_all names m.0.names inn k i)

  -- a block of steps that takes and gives no slot: these names are at the posts `was` before it and at the posts `now` after it;
  -- the view then states `then`
  pub wide_block : (was now : Posts T) → names_of was ≡ names_of now → AllIn (names_of now) m.0.names → Stand r.core was → AreOut key.size was → AreOut key.size now
      → (c : QueueState T) (new : List (Mark T)) (u l : ℤ) (i d : ℕ) → IsReachedFrom key.seats key.size r.core c → Changes r.core c new u l i d now → AreAmong (λ (x : Mark T). x.seat) m.0.names new
      → (j : ℕ) → (16 ≤ j) × (j < 80 + key.size) → (w : ℕ) → AreWords key.size u l i d r.core.turn r.core.shut (set s.words j w) → (left : ℕ) → i + d + left ≤ r.core.draws_in + r.core.draws_out + m.0.left
      → (then : Phases T) → ((n : ℕ) → In n m.0.names → StandsIn c n then) → (tells : List (Mark T) → Type 0) → tells r.core.past
      → let v = sees m.0.names m.0.noted (new ++ r.core.past) then left in
      IsShownQueue key (stepped s j w id m.1 v keeps) × Leaves (queue_object key.size key.seats) m new then left m.1 tells (v, m.1)
  wide_block was now names inn stood out_was out_now c new u l i d reached x own j fit w words left few then says tells told =
      let Kc = kept key.size c (reached_after key.size r.core c r.reached.reached reached) r.encoded.some_cell in
      let low : (n : ℕ) → In n (names_of now) → n < key.seats = λ n i. r.below id m.0 at n (in_all (names_of now) m.0.names inn n i) in
      let step : BlockAdvances (queue_object key.size key.seats) r.core m.0.names c new then = record {
        reached = record { reached = reached_after key.size r.core c r.reached.reached reached; beyond = λ n far. x.others n (λ i. let near = low n i in omega (arith, near, far)) ∙ r.reached.beyond n far };
        past = x.past_is;
        own = own;
        stands = says;
        others = λ k p out at. stands_else r.core c k (x.others k (λ i. out (in_all (names_of now) m.0.names inn k i))) p at;
      } in
      let shows : IsEncoded key.size key.seats c r.notes (set s.words j w) s.homes = record {
        some_cell = r.encoded.some_cell;
        few_cells = r.encoded.few_cells;
        few_seats = r.encoded.few_seats;
        words_are = subst (λ (z : (ℕ → ℕ) × Bool). AreWords key.size c.upper c.lower c.draws_in c.draws_out z.0 z.1 (set s.words j w)) (λ a. (sym x.turn_is a, sym x.shut_is a))
            (subst (λ (z : ℤ × ℤ × ℕ × ℕ). AreWords key.size z.0 z.1 z.2 z.3 r.core.turn r.core.shut (set s.words j w)) (λ a. (sym x.upper_is a, sym x.lower_is a, sym x.draws_in_is a, sym x.draws_out_is a)) words);
        wide = r.encoded.wide;
        sleepers = sleepers_after key.seats key.size r.core c r.notes s.words j w r.encoded.sleepers reached fit.0 fit.1;
        slots_are = λ i lt. homes_stay key.size r.core c s.homes (names_of now) x.turn_is x.cell_is
            (λ n k. nowhere key.size r.core was stood out_was n (subst (In n) (sym names) k)) (nowhere key.size c now x.stand out_now) x.others i (r.encoded.slots_are i lt);
      } in
      let a = K.draws_in in let b = K.draws_out in let a' = Kc.draws_in in let b' = Kc.draws_out in let e = x.draws_in_is in let f = x.draws_out_is in
      block_steps (queue_object key.size key.seats) s r id m at (queue_law key.size key.seats r.encoded.some_cell) c new then step j w keeps shows left (omega (arith, few, a, b, a', b', e, f)) tells told

  -- the other names keep their phases
  pub quiet_block : (was now rest : Posts T) → names_of was ≡ names_of now → AreDisjoint (names_of now) (names_of rest) → AllIn (names_of now) m.0.names → Stand r.core was → Stand r.core rest → AreOut key.size was → AreOut key.size now
      → (c : QueueState T) (new : List (Mark T)) (u l : ℤ) (i d : ℕ) → IsReachedFrom key.seats key.size r.core c → Changes r.core c new u l i d now → AreAmong (λ (x : Mark T). x.seat) m.0.names new
      → (j : ℕ) → (16 ≤ j) × (j < 80 + key.size) → (w : ℕ) → AreWords key.size u l i d r.core.turn r.core.shut (set s.words j w) → (left : ℕ) → i + d + left ≤ r.core.draws_in + r.core.draws_out + m.0.left
      → (then : Phases T) → SaysAfter m.0.names (now ++ rest) then → (tells : List (Mark T) → Type 0) → tells r.core.past
      → let v = sees m.0.names m.0.noted (new ++ r.core.past) then left in
      IsShownQueue key (stepped s j w id m.1 v keeps) × Leaves (queue_object key.size key.seats) m new then left m.1 tells (v, m.1)
  quiet_block was now rest names apart inn stood stay out_was out_now c new u l i d reached x own j fit w words left few then says tells told =
      let still : Stand c rest = stand_on r.core c rest (λ n i. x.others n (λ k. apart n k i)) stay in
      let both : Stand c (now ++ rest) = stand_both c now rest x.stand still in
      wide_block was now names inn stood out_was out_now c new u l i d reached x own j fit w words left few then (λ n k. says_of c (now ++ rest) m.0.names then says both n k) tells told

  pub few_draws : (r.core.draws_in + r.core.draws_out + m.0.left ≤ 2 ^ 50)
  few_draws =
      let l = total_at (λ (v : QueueView T). v.left) s.views id m.0 at in
      let few = r.few in let a = K.draws_in in let b = K.draws_out in
      omega (arith, few, l, a, b)

  -- ---- the add to the upper count

  pub upper_most : ℕ
  upper_most = count upper_raise r.core.past - count upper_drop r.core.past

  pub upper_bounds : (pos 0 +ℤ r.core.upper ≡ pos upper_most) × (upper_most ≤ 100000000)
  unfolding upper_most
  upper_bounds =
      let g = upper_range key.size key.seats r.core.past K.legal (below_of key.seats r.core.past r.named) in
      let k = K.upper in let few = r.encoded.few_seats in let cells = r.encoded.few_cells in
      (omega (arith, ints, k, g.0), omega (arith, g.0, g.1, few, cells))

  pub upper_word : (d : ℕ) → d ≤ 1024 → AreWords key.size (r.core.upper +ℤ pos d) r.core.lower r.core.draws_in r.core.draws_out r.core.turn r.core.shut (set s.words 16 ((slice_index s.words 16 + d) % 2 ^ 64))
  upper_word d small = let b = upper_bounds in
      words_upper key.size r.core.upper r.core.lower r.core.draws_in r.core.draws_out r.core.turn r.core.shut s.words r.encoded.words_are _ (r.core.upper +ℤ pos d) r.core.shut
      (grown_by (shut_part r.core.shut) (slice_index s.words 16) r.core.upper upper_most d (shut_part-small r.core.shut) r.encoded.words_are.upper_is b.0 b.1 small)

  -- ---- ends and withdrawals

  pub lower_most : ℕ
  lower_most = count lower_raise r.core.past + 1024 - count lower_drop r.core.past

  pub lower_bounds : (pos 1024 +ℤ r.core.lower ≡ pos lower_most) × (lower_most ≤ 100000000)
  unfolding lower_most
  lower_bounds =
      let g = lower_range key.size key.seats r.core.past K.legal (below_of key.seats r.core.past r.named) in
      let k = K.lower in let few = r.encoded.few_seats in let cells = r.encoded.few_cells in
      (omega (arith, ints, k, g.0, few), omega (arith, g.0, g.1, few, cells))

  -- names that step from `was`, and the others
  module _ {B : Type 0} (f : B → Phase T) (items : List (ℕ × B)) (others : Posts T) (e : Says m.0 (all_at f items ++ others)) (once : AreApart (names_of items)) (apart : AreDisjoint (names_of items) (names_of others)) (inn : AllIn (names_of items ++ names_of others) m.0.names) where
    mine_in : AllIn (names_of items) m.0.names
    mine_in = all_left (names_of items) (names_of others) m.0.names inn

    stood_so : Stand r.core (all_at f items)
    stood_so = posted e.0 (all_at f items) e.1 (λ n p i. e.2 n p (post_left (all_at f items) others n p i)) (subst (λ l. AllIn l m.0.names) (sym (names-at f items)) mine_in)

    stay_so : Stand r.core others
    stay_so = posted e.0 others e.1 (λ n p i. e.2 n p (post_right (all_at f items) others n p i)) (all_right (names_of items) (names_of others) m.0.names inn)

    reached_so : IsReachedFrom key.seats key.size r.core (block key.size r.core (all_at f items))
    reached_so = reached_block key.size r.core (all_at f items) (lows (names_of (all_at f items)) (subst (λ l. AllIn l m.0.names) (sym (names-at f items)) mine_in)) (from_itself key.size r.core) (subst AreApart (sym (names-at f items)) once) stood_so

    pub wide_step : (g : B → Phase T) → ((x : B) (i : ℕ) → InCell key.size (f x) i → ⊥) → ((x : B) (i : ℕ) → InCell key.size (g x) i → ⊥) → (new : List (Mark T)) → AreAmong (λ (x : Mark T). x.seat) m.0.names new → (u l : ℤ) (i d : ℕ)
        → Changes r.core (block key.size r.core (all_at f items)) new u l i d (all_at g items) → (j : ℕ) → (16 ≤ j) × (j < 80 + key.size) → (w : ℕ) → AreWords key.size u l i d r.core.turn r.core.shut (set s.words j w) → (left : ℕ) → i + d + left ≤ r.core.draws_in + r.core.draws_out + m.0.left
        → (then : Phases T) → SaysAfter m.0.names (all_at g items ++ others) then → (tells : List (Mark T) → Type 0) → tells r.core.past
        → let v = sees m.0.names m.0.noted (new ++ r.core.past) then left in IsShownQueue key (stepped s j w id m.1 v keeps) × Leaves (queue_object key.size key.seats) m new then left m.1 tells (v, m.1)
    wide_step g out out' new own u l i d x j fit w words left few then says tells told =
        let same = names-at g items in
        quiet_block (all_at f items) (all_at g items) others (names-at f items ∙ sym same) (subst (λ l. AreDisjoint l (names_of others)) (sym same) apart) (subst (λ l. AllIn l m.0.names) (sym same) mine_in) stood_so stay_so
        (out_at key.size f items out) (out_at key.size g items out') (block key.size r.core (all_at f items)) new u l i d reached_so x own j fit w words left few then says tells told

  -- ---- words

  pub lower_tells : TellsLower (slice_index s.words 32) r.core.past
  lower_tells = r.encoded.words_are.lower_is ∙ ap (λ z. pos bias +ℤ z) (K.lower ∙ sym (lower_count-reverse r.core.past))

  pub lower_less : (d : ℕ) → d ≤ 1024 → AreWords key.size r.core.upper (r.core.lower -ℤ pos d) r.core.draws_in r.core.draws_out r.core.turn r.core.shut (set s.words 32 ((slice_index s.words 32 + (2 ^ 64 - d)) % 2 ^ 64))
  lower_less d small = let b = lower_bounds in
      words_lower key.size r.core.upper r.core.lower r.core.draws_in r.core.draws_out r.core.turn r.core.shut s.words r.encoded.words_are _ (r.core.lower -ℤ pos d) (shrunk_low (slice_index s.words 32) r.core.lower lower_most d r.encoded.words_are.lower_is b.0 b.1 small)

  pub lower_more : (d : ℕ) → d ≤ 1024 → AreWords key.size r.core.upper (r.core.lower +ℤ pos d) r.core.draws_in r.core.draws_out r.core.turn r.core.shut (set s.words 32 ((slice_index s.words 32 + d) % 2 ^ 64))
  lower_more d small = let b = lower_bounds in
      words_lower key.size r.core.upper r.core.lower r.core.draws_in r.core.draws_out r.core.turn r.core.shut s.words r.encoded.words_are _ (r.core.lower +ℤ pos d) (grown_low (slice_index s.words 32) r.core.lower lower_most d r.encoded.words_are.lower_is b.0 b.1 small)

  pub upper_less : (d : ℕ) → d ≤ 1024 → AreWords key.size (r.core.upper -ℤ pos d) r.core.lower r.core.draws_in r.core.draws_out r.core.turn r.core.shut (set s.words 16 ((slice_index s.words 16 + (2 ^ 64 - d)) % 2 ^ 64))
  upper_less d small = let b = upper_bounds in
      words_upper key.size r.core.upper r.core.lower r.core.draws_in r.core.draws_out r.core.turn r.core.shut s.words r.encoded.words_are _ (r.core.upper -ℤ pos d) r.core.shut
      (shrunk_by (shut_part r.core.shut) (slice_index s.words 16) r.core.upper upper_most d (shut_part-small r.core.shut) r.encoded.words_are.upper_is b.0 b.1 small)
