-- The blocks of a burst of insertions: the test, the add, the withdrawal, the draw and the end.
use Rattle.fak_model.specs.declared.queue.Kind.TheVariants as made
use Rattle.fak_model.specs.Views.{sight as sees}
use Rattle.fak_model.specs.Shown.{Leaves}
use Rattle.fak_model.proofs.RunningBlocks.{AreAmong, among_append}
use Rattle.fak_core.specs.declared.queue.phase.Phase.TheVariants.{Idle, AddUp, BackUp, TicketIn}
use Rattle.fak_core.specs.QueueBlocks.{Posts, names_of, AreApart, Stand, all_at, turns_from, marks_back, Changes, AreAdded, after_adds, after_draws, tested}
use Rattle.fak_queue.proofs.ReachedFrom.{reached_block, reached_tests}
use Rattle.fak_core.proofs.QueueBlocks.{names-at, names-turns, names-append}
use Rattle.fak_core.proofs.InsertionBlocks.{tests_room, tests_full, tests_shut, adds, adds_late, draws, backs}
use Rattle.fak_queue.specs.Bursts.{AllIn, AreDisjoint, PostsAreIdle, Says, SaysAfter, TestedBurst, BackBurst, DrewBurst, granted_of, TellsUpper, AddedBurst}
use Rattle.fak_queue.proofs.Common.{from_itself, QueueHolder, queue_object, IsShownQueue, QueueLimits, AreWords, ◌≡◌, ℕ, ◌+◌, ◌-◌, ◌%◌, ◌^◌, ◌≤◌, List, [], ◌∷◌, ◌++◌, length, slice_index, set, refl, sym, ap, ◌∙◌, subst, inl, inr, arith, Some, pos, ◌+ℤ◌, bias, shut_part, mod-eq_of_lt, reverse, true, false, true_or_false, int_lt, ◌-ℤ◌, Phases, Alike, Each, some, get_elem?, count, puts, count_reverse, keeps, stepped, Mark, Phase, InCell}
use Rattle.std.specs.Prelude.{take, drop}
use Rattle.std.proofs.lemmas.List.{take-append-drop}
use Rattle.fak_queue.proofs.WordWrites.{shut_part-small, shut_above, open_below, below_word, full_word, words_same, words_draws_in, words_upper}
use Rattle.fak_queue.proofs.Stepping.{QueueTable, upper_count-reverse}
use Rattle.fak_queue.proofs.BurstPosts.{AreOut, all_left, all_right, among_back, idle_all, idle_both, out_at, out_both, out_turns, post_left, post_right}
use Rattle.fak_queue.proofs.BurstWords.{grants, shrunk_by}
use Rattle.fak_queue.proofs.BurstBlocks.{lows, K, Permits, few_draws, posted, quiet_block, upper_bounds, upper_most, upper_word, wide_step}

module _ {T : Type 0} (key : QueueLimits) (s : QueueTable T) (r : IsShownQueue key s) (id : ℕ) (m : QueueHolder T) (at : get_elem? s.views id ≡ some m.0) where
  pub draws_burst : (items : List (ℕ × T)) (others : Posts T) → Says m.0 (all_at (λ x. TicketIn x) items ++ others) → AreApart (names_of items) → AreDisjoint (names_of items) (names_of others) → AllIn (names_of items ++ names_of others) m.0.names
      → (d : ℕ) → d ≡ length items → d ≤ m.0.left → Permits key s r id m at 48 (λ w. (w + d) % 2 ^ 64) (DrewBurst key.size key.seats items others m)
  draws_burst items others e once apart inn d d_is left =
      let w = slice_index s.words 48 in
      let is : w ≡ r.core.draws_in = r.encoded.words_are.draws_in_is in
      let few = (few_draws key s r id m at) in
      let was = all_at (λ x. TicketIn x) items in
      let next : (w + d) % 2 ^ 64 ≡ r.core.draws_in + length items = mod-eq_of_lt (omega (arith, is, few, left)) ∙ omega (arith, is, d_is) in
      let names = names-at (λ x. TicketIn x) items in
      let mine = all_left (names_of items) (names_of others) m.0.names inn in
      let stood = posted key s r id m at e.0 was e.1 (λ n p i. e.2 n p (post_left was others n p i)) (subst (λ l. AllIn l m.0.names) (sym names) mine) in
      let stay = posted key s r id m at e.0 others e.1 (λ n p i. e.2 n p (post_right was others n p i)) (all_right (names_of items) (names_of others) m.0.names inn) in
      let reached = reached_block key.size r.core was (lows key s r id m at (names_of was) (subst (λ l. AllIn l m.0.names) (sym names) mine)) (from_itself key.size r.core) (subst AreApart (sym names) once) stood in
      let x = draws key.size r.core items once in
      let words = subst (λ i. AreWords key.size r.core.upper r.core.lower i r.core.draws_out r.core.turn r.core.shut (set s.words 48 ((w + d) % 2 ^ 64))) next
      (words_draws_in key.size r.core.upper r.core.lower r.core.draws_in r.core.draws_out r.core.turn r.core.shut s.words r.encoded.words_are ((w + d) % 2 ^ 64)) in
      let turns = names-turns r.core.draws_in items in
      let new = marks_back (λ x. made.Put x) items in
      let q = quiet_block key s r id m at was (turns_from r.core.draws_in items) others (names ∙ sym turns) (subst (λ l. AreDisjoint l (names_of others)) (sym turns) apart) (subst (λ l. AllIn l m.0.names) (sym turns) mine) stood stay
      (out_at key.size (λ x. TicketIn x) items (λ x i j. j)) (out_turns key.size r.core.draws_in items) (after_draws key.size r.core items) new r.core.upper r.core.lower (r.core.draws_in + length items) r.core.draws_out reached x
      (among_back (λ x. made.Put x) items m.0.names mine) 48 (omega arith, omega arith) ((w + d) % 2 ^ 64) words (m.0.left - length items) (omega (arith, left, d_is)) (Each (turns_from r.core.draws_in items ++ others)) (inl refl) (λ past. count puts (reverse past) ≡ w) (count_reverse puts r.core.past ∙ (sym (K key s r id m at).draws_in ∙ sym is)) in
      let after : ℕ → QueueHolder T = λ k. (sees m.0.names m.0.noted (new ++ r.core.past) (Each (turns_from k items ++ others)) (m.0.left - length items), m.1) in (
        (after r.core.draws_in).0,
        keeps,
        tt,
        q.0,
        record {
          leaves = subst (λ k. Leaves (queue_object key.size key.seats) m new (Each (turns_from k items ++ others)) (m.0.left - length items) m.1 (λ past. count puts (reverse past) ≡ w) (after r.core.draws_in)) (sym is) q.1;
          few = omega (arith, is, few, left, d_is);
        },
      )

  module _ (items : List (ℕ × T)) (others : Posts T) (e : Says m.0 (all_at (λ x. AddUp x) items ++ others)) (once : AreApart (names_of items)) (apart : AreDisjoint (names_of items) (names_of others)) (inn : AllIn (names_of items ++ names_of others) m.0.names) (d : ℕ) (d_is : d ≡ length items) (small : d ≤ 1024) where
    abbrev Added : List (Mark T) → Posts T → QueueHolder T
    Added new now = (sees m.0.names m.0.noted (new ++ r.core.past) (Each (now ++ others)) m.0.left, m.1)

    -- all names take part: what the queue shows and each knows then
    added : (now : Posts T) (new : List (Mark T)) → names_of now ≡ names_of items → AreOut key.size now → AreAmong (λ (x : Mark T). x.seat) m.0.names new
        → Changes r.core (after_adds key.size r.core items) new (r.core.upper +ℤ pos (length items)) r.core.lower r.core.draws_in r.core.draws_out now → (tells : List (Mark T) → Type 0) → tells r.core.past
        → IsShownQueue key (stepped s 16 ((slice_index s.words 16 + d) % 2 ^ 64) id m.1 (Added new now).0 keeps) × Leaves (queue_object key.size key.seats) m new (Each (now ++ others)) m.0.left m.1 tells (Added new now)
    added now new same out own x tells told =
        let was = all_at (λ x. AddUp x) items in
        let names = names-at (λ x. AddUp x) items in
        let mine = all_left (names_of items) (names_of others) m.0.names inn in
        let stood = posted key s r id m at e.0 was e.1 (λ n p i. e.2 n p (post_left was others n p i)) (subst (λ l. AllIn l m.0.names) (sym names) mine) in
        let stay = posted key s r id m at e.0 others e.1 (λ n p i. e.2 n p (post_right was others n p i)) (all_right (names_of items) (names_of others) m.0.names inn) in
        let reached = reached_block key.size r.core was (lows key s r id m at (names_of was) (subst (λ l. AllIn l m.0.names) (sym names) mine)) (from_itself key.size r.core) (subst AreApart (sym names) once) stood in
        let words = subst (λ k. AreWords key.size (r.core.upper +ℤ pos k) r.core.lower r.core.draws_in r.core.draws_out r.core.turn r.core.shut (set s.words 16 ((slice_index s.words 16 + d) % 2 ^ 64))) d_is (upper_word key s r id m at d small) in
        quiet_block key s r id m at was now others (names ∙ sym same) (subst (λ l. AreDisjoint l (names_of others)) (sym same) apart) (subst (λ l. AllIn l m.0.names) (sym same) mine) stood stay
        (out_at key.size (λ x. AddUp x) items (λ x i j. j)) out (after_adds key.size r.core items) new (r.core.upper +ℤ pos (length items)) r.core.lower r.core.draws_in r.core.draws_out reached x own
        16 (omega arith, omega arith) ((slice_index s.words 16 + d) % 2 ^ 64) words m.0.left (omega arith) (Each (now ++ others)) (inl refl) tells told

    added_late : r.core.shut ≡ true → Permits key s r id m at 16 (λ w. (w + d) % 2 ^ 64) (AddedBurst key.size key.seats items others m)
    added_late shut =
        let w = slice_index s.words 16 in
        let b = (upper_bounds key s r id m at) in
        let mine = all_left (names_of items) (names_of others) m.0.names inn in
        let new = marks_back (λ x. made.LateIn) items in
        let now = all_at (λ x. BackUp x) items in
        let q = added now new (names-at (λ x. BackUp x) items) (out_at key.size (λ x. BackUp x) items (λ x i j. j)) (among_back (λ x. made.LateIn) items m.0.names mine) (adds_late key.size r.core items once shut) (λ past. Unit {0}) tt in
        let high = shut_above w 0 (upper_most key s r id m at) r.core.upper (r.encoded.words_are.upper_is ∙ ap (λ b. pos (shut_part b + bias) +ℤ r.core.upper) shut) b.0 (omega arith) in
        ((Added new now).0, keeps, tt, q.0, record { some = λ low. absurd (omega (arith, high, low)); late = λ _. q.1 })

    added_some : r.core.shut ≡ false → Permits key s r id m at 16 (λ w. (w + d) % 2 ^ 64) (AddedBurst key.size key.seats items others m)
    added_some opn =
        let w = slice_index s.words 16 in
        let b = (upper_bounds key s r id m at) in
        let word : pos w ≡ pos bias +ℤ r.core.upper = r.encoded.words_are.upper_is ∙ ap (λ b. pos (shut_part b + bias) +ℤ r.core.upper) opn in
        let j = granted_of key.size w (length items) in
        let granted = take j items in
        let over = drop j items in
        let whole : granted ++ over ≡ items = take-append-drop j items in
        let named : names_of granted ++ names_of over ≡ names_of items = sym (names-append granted over) ∙ ap (λ l. names_of l) whole in
        let mine = subst (λ l. AllIn l m.0.names) (sym named) (all_left (names_of items) (names_of others) m.0.names inn) in
        let now = all_at (λ x. TicketIn x) granted ++ all_at (λ x. BackUp x) over in
        let new = marks_back (λ x. made.OverIn) over ++ marks_back (λ x. made.ClaimIn) granted in
        let names_now : names_of now ≡ names_of items = names-append (all_at (λ x. TicketIn x) granted) (all_at (λ x. BackUp x) over) ∙ ((λ i. names-at (λ x. TicketIn x) granted i ++ names-at (λ x. BackUp x) over i) ∙ named) in
        let x0 : AreAdded key.size r.core granted over = adds key.size r.core granted over (subst (λ l. AreApart (names_of l)) (sym whole) once) (grants key.size r.core w items opn word) in
        let x = subst (λ l. Changes r.core (after_adds key.size r.core l) new (r.core.upper +ℤ pos (length l)) r.core.lower r.core.draws_in r.core.draws_out now) whole x0 in
        let own = among_append (λ (x : Mark T). x.seat) m.0.names (marks_back (λ x. made.OverIn) over) (marks_back (λ x. made.ClaimIn) granted)
        (among_back (λ x. made.OverIn) over m.0.names (all_right (names_of granted) (names_of over) m.0.names mine)) (among_back (λ x. made.ClaimIn) granted m.0.names (all_left (names_of granted) (names_of over) m.0.names mine)) in
        let out = out_both key.size (all_at (λ x. TicketIn x) granted) (all_at (λ x. BackUp x) over) (out_at key.size (λ x. TicketIn x) granted (λ x i j. j)) (out_at key.size (λ x. BackUp x) over (λ x i j. j)) in
        let q = added now new names_now out own x (TellsUpper w) (word ∙ ap (λ z. pos bias +ℤ z) ((K key s r id m at).upper ∙ sym (upper_count-reverse r.core.past))) in
        let low = open_below w 0 (upper_most key s r id m at) r.core.upper word b.0 b.1 in
        ((Added new now).0, keeps, tt, q.0, record { some = λ _. q.1; late = λ high. absurd (omega (arith, high, low)) })

    pub adds_burst : Permits key s r id m at 16 (λ w. (w + d) % 2 ^ 64) (AddedBurst key.size key.seats items others m)
    adds_burst = elim (true_or_false r.core.shut) [ inl shut ↦ added_late shut | inr opn ↦ added_some opn ]

  pub backs_burst : (items : List (ℕ × T)) (others : Posts T) → Says m.0 (all_at (λ x. BackUp x) items ++ others) → AreApart (names_of items) → AreDisjoint (names_of items) (names_of others) → AllIn (names_of items ++ names_of others) m.0.names
      → (then : Phases T) → SaysAfter m.0.names (all_at (λ x. Idle) items ++ others) then → (d : ℕ) → d ≡ length items → d ≤ 1024 → Permits key s r id m at 16 (λ w. (w + (2 ^ 64 - d)) % 2 ^ 64) (λ found after. BackBurst key.size key.seats items others then m after)
  backs_burst items others e once apart inn then says d d_is small =
      let w = slice_index s.words 16 in
      let b = (upper_bounds key s r id m at) in
      let words = subst (λ k. AreWords key.size (r.core.upper -ℤ pos k) r.core.lower r.core.draws_in r.core.draws_out r.core.turn r.core.shut (set s.words 16 ((w + (2 ^ 64 - d)) % 2 ^ 64))) d_is
      (words_upper key.size r.core.upper r.core.lower r.core.draws_in r.core.draws_out r.core.turn r.core.shut s.words r.encoded.words_are _ (r.core.upper -ℤ pos d) r.core.shut
      (shrunk_by (shut_part r.core.shut) w r.core.upper (upper_most key s r id m at) d (shut_part-small r.core.shut) r.encoded.words_are.upper_is b.0 b.1 small)) in
      let new = marks_back (λ x. made.BackIn) items in
      let q = wide_step key s r id m at (λ x. BackUp x) items others e once apart inn (λ x. Idle) (λ x i j. j) (λ x i j. j) new (among_back (λ x. made.BackIn) items m.0.names (all_left (names_of items) (names_of others) m.0.names inn))
      (r.core.upper -ℤ pos (length items)) r.core.lower r.core.draws_in r.core.draws_out (backs key.size r.core items once) 16 (omega arith, omega arith) ((w + (2 ^ 64 - d)) % 2 ^ 64) words m.0.left (omega arith) then says (λ past. Unit {0}) tt in
      (sees m.0.names m.0.noted (new ++ r.core.past) then m.0.left, keeps, tt, q.0, q.1)

  -- ---- the test

  module _ (items : List (ℕ × T)) (others : Posts T) (e : m.0.phase ≡ Some (Alike Idle)) (once : AreApart (names_of items)) (apart : AreDisjoint (names_of items) (names_of others)) (inn : AllIn (names_of items ++ names_of others) m.0.names) (whole : AllIn m.0.names (names_of items ++ names_of others)) (idle : PostsAreIdle others) where
    rests : (ps : Posts T) → PostsAreIdle ps → AllIn (names_of ps) m.0.names → Stand r.core ps
    rests [] idle inn = tt
    rests (q ∷ ps) idle inn = (r.stands id m.0 at q.0 inn.0 (Alike Idle) e ∙ sym idle.0, rests ps idle.1 inn.1)

    tested_so : (g : T → Phase T) → ((x : T) (i : ℕ) → InCell key.size (g x) i → ⊥) → (new : List (Mark T)) → AreAmong (λ (x : Mark T). x.seat) m.0.names new
        → Changes r.core (tested key.size r.core items) new r.core.upper r.core.lower r.core.draws_in r.core.draws_out (all_at g items) → (then : Phases T) → SaysAfter m.0.names (all_at g items ++ others) then → (tells : List (Mark T) → Type 0) → tells r.core.past
        → let v = sees m.0.names m.0.noted (new ++ r.core.past) then m.0.left in IsShownQueue key (stepped s 16 (slice_index s.words 16) id m.1 v keeps) × Leaves (queue_object key.size key.seats) m new then m.0.left m.1 tells (v, m.1)
    tested_so g out new own x then says tells told =
        let was = all_at (λ (x : T). Idle) items in
        let names = names-at (λ (x : T). Idle) items in
        let same = names-at g items in
        let mine = all_left (names_of items) (names_of others) m.0.names inn in
        let stood = rests was (idle_all T items) (subst (λ l. AllIn l m.0.names) (sym names) mine) in
        let stay = rests others idle (all_right (names_of items) (names_of others) m.0.names inn) in
        quiet_block key s r id m at was (all_at g items) others (names ∙ sym same) (subst (λ l. AreDisjoint l (names_of others)) (sym same) apart) (subst (λ l. AllIn l m.0.names) (sym same) mine) stood stay
        (out_at key.size (λ (x : T). Idle) items (λ x i j. j)) (out_at key.size g items out) (tested key.size r.core items) new r.core.upper r.core.lower r.core.draws_in r.core.draws_out
        (reached_tests key.size r.core items (lows key s r id m at (names_of items) mine) (from_itself key.size r.core) once stood) x own 16 (omega arith, omega arith) (slice_index s.words 16)
        (words_same key.size r.core.upper r.core.lower r.core.draws_in r.core.draws_out r.core.turn r.core.shut s.words r.encoded.words_are 16) m.0.left (omega arith) then says tells told

    -- all names rest again
    again : SaysAfter m.0.names (all_at (λ (x : T). Idle) items ++ others) (Alike Idle)
    again = inr (
      refl,
      idle_both (all_at (λ (x : T). Idle) items) others (idle_all T items) idle,
      subst (λ l. AllIn m.0.names l) (sym (names-append (all_at (λ (x : T). Idle) items) others ∙ ap (λ l. l ++ names_of others) (names-at (λ (x : T). Idle) items))) whole,
    )

    pub tests_burst : Permits key s r id m at 16 (λ w. w) (TestedBurst key.size key.seats items others m)
    tests_burst =
        let w = slice_index s.words 16 in
        let b = (upper_bounds key s r id m at) in
        let mine = all_left (names_of items) (names_of others) m.0.names inn in
        let cells = r.encoded.few_cells in
        elim (true_or_false r.core.shut) [
          | inl shut ↦ (
              let new = marks_back (λ x. made.Closed) items in
              let q = tested_so (λ x. Idle) (λ x i j. j) new (among_back (λ x. made.Closed) items m.0.names mine) (tests_shut key.size r.core items once shut) (Alike Idle) again (λ past. Unit {0}) tt in
              let high = shut_above w 0 (upper_most key s r id m at) r.core.upper (r.encoded.words_are.upper_is ∙ ap (λ b. pos (shut_part b + bias) +ℤ r.core.upper) shut) b.0 (omega arith) in
              (sees m.0.names m.0.noted (new ++ r.core.past) (Alike Idle) m.0.left, keeps, tt, q.0, record { room = λ low. absurd (omega (arith, high, low, cells)); full = λ _ low. absurd (omega (arith, high, low)); late = λ _. q.1 }))
          | inr opn ↦ (
              let word : pos w ≡ pos bias +ℤ r.core.upper = r.encoded.words_are.upper_is ∙ ap (λ b. pos (shut_part b + bias) +ℤ r.core.upper) opn in
              let low = open_below w 0 (upper_most key s r id m at) r.core.upper word b.0 b.1 in
              let told : TellsUpper w r.core.past = word ∙ ap (λ z. pos bias +ℤ z) ((K key s r id m at).upper ∙ sym (upper_count-reverse r.core.past)) in
              elim (true_or_false (int_lt r.core.upper (pos key.size))) [
                | inl lt ↦ (
                    let then = Each (all_at (λ x. AddUp x) items ++ others) in
                    let q = tested_so (λ x. AddUp x) (λ x i j. j) [] tt (tests_room key.size r.core items once opn lt) then (inl refl) (TellsUpper w) told in
                    let below = below_word w key.size r.core.upper word lt in
                    (sees m.0.names m.0.noted r.core.past then m.0.left, keeps, tt, q.0, record { room = λ _. q.1; full = λ high _. absurd (omega (arith, high, below)); late = λ high. absurd (omega (arith, high, low)) }))
                | inr ge ↦ (
                    let new = marks_back (λ x. made.NoRoom) items in
                    let q = tested_so (λ x. Idle) (λ x i j. j) new (among_back (λ x. made.NoRoom) items m.0.names mine) (tests_full key.size r.core items once opn ge) (Alike Idle) again (TellsUpper w) told in
                    let high = full_word w key.size r.core.upper word ge in
                    (sees m.0.names m.0.noted (new ++ r.core.past) (Alike Idle) m.0.left, keeps, tt, q.0, record { room = λ below. absurd (omega (arith, high, below)); full = λ _ _. q.1; late = λ high. absurd (omega (arith, high, low)) }))
              ])
        ]
