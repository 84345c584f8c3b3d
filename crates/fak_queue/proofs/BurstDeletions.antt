-- The blocks of a burst of deletions: the test, the subtraction, the withdrawal, the draw and the end.
use Rattle.fak_model.specs.declared.queue.Kind.TheVariants as made
use Rattle.fak_model.specs.Views.{sight as sees}
use Rattle.fak_model.specs.Shown.{Leaves}
use Rattle.fak_model.proofs.RunningBlocks.{AreAmong, among_append}
use Rattle.fak_core.specs.declared.queue.phase.Phase.TheVariants.{Idle, SubLow, BackLow, TicketOut}
use Rattle.fak_core.specs.QueueBlocks.{Posts, names_of, AreApart, Stand, block, all_at, marks_back, Changes, turns_out_from, ArePut, tested_low}
use Rattle.fak_queue.proofs.ReachedFrom.{reached_block, reached_tests_low}
use Rattle.fak_core.proofs.QueueBlocks.{names-turns_out, names-at, names-append}
use Rattle.fak_core.proofs.DeletionBlocks.{tests_stock, tests_empty, subs, backs_low, draws_out}
use Rattle.fak_queue.specs.Bursts.{AllIn, AreDisjoint, PostsAreIdle, Says, SaysAfter, granted_low, TellsLower, SubbedBurst, BackLowBurst, DrewOutBurst, TestedLowBurst}
use Rattle.fak_queue.proofs.Common.{from_itself, QueueHolder, queue_object, IsShownQueue, QueueLimits, AreWords, ◌≡◌, ℕ, ◌+◌, ◌-◌, ◌%◌, ◌^◌, ◌≤◌, List, [], ◌∷◌, ◌++◌, length, slice_index, set, refl, sym, ap, ◌∙◌, subst, inl, inr, arith, Some, pos, ◌+ℤ◌, mod-eq_of_lt, reverse, true_or_false, int_lt, ◌-ℤ◌, Phases, Alike, Each, some, get_elem?, count, gots, count_reverse, keeps, stepped, Mark, Phase, InCell}
use Rattle.std.specs.Prelude.{take, drop}
use Rattle.std.proofs.lemmas.List.{take-append-drop}
use Rattle.fak_queue.proofs.WordWrites.{words_same, positive_word, empty_word, words_draws_out}
use Rattle.fak_queue.proofs.Stepping.{QueueTable}
use Rattle.fak_queue.proofs.BurstPosts.{all_left, all_right, among_back, idle_all, idle_both, out_at, out_both, out_turns_out, post_left, post_right}
use Rattle.fak_queue.proofs.BurstWords.{grants_low}
use Rattle.fak_queue.proofs.BurstBlocks.{lows, K, Permits, few_draws, lower_less, lower_more, lower_tells, posted, quiet_block, wide_step}

module _ {T : Type 0} (key : QueueLimits) (s : QueueTable T) (r : IsShownQueue key s) (id : ℕ) (m : QueueHolder T) (at : get_elem? s.views id ≡ some m.0) where
  pub backs_low_burst : (items : List (ℕ × Unit {0})) (others : Posts T) → Says m.0 (all_at (λ x. BackLow) items ++ others) → AreApart (names_of items) → AreDisjoint (names_of items) (names_of others) → AllIn (names_of items ++ names_of others) m.0.names
      → (then : Phases T) → SaysAfter m.0.names (all_at (λ x. Idle) items ++ others) then → (d : ℕ) → d ≡ length items → d ≤ 1024 → Permits key s r id m at 32 (λ w. (w + d) % 2 ^ 64) (λ found after. BackLowBurst key.size key.seats items others then m after)
  backs_low_burst items others e once apart inn then says d d_is small =
      let w = slice_index s.words 32 in
      let words = subst (λ k. AreWords key.size r.core.upper (r.core.lower +ℤ pos k) r.core.draws_in r.core.draws_out r.core.turn r.core.shut (set s.words 32 ((w + d) % 2 ^ 64))) d_is (lower_more key s r id m at d small) in
      let new = marks_back (λ x. made.BackOut) items in
      let q = wide_step key s r id m at (λ x. BackLow) items others e once apart inn (λ x. Idle) (λ x i j. j) (λ x i j. j) new (among_back (λ x. made.BackOut) items m.0.names (all_left (names_of items) (names_of others) m.0.names inn))
      r.core.upper (r.core.lower +ℤ pos (length items)) r.core.draws_in r.core.draws_out (backs_low key.size r.core items once) 32 (omega arith, omega arith) ((w + d) % 2 ^ 64) words m.0.left (omega arith) then says (λ past. Unit {0}) tt in
      (sees m.0.names m.0.noted (new ++ r.core.past) then m.0.left, keeps, tt, q.0, q.1)

  pub draws_out_burst : (items : List (ℕ × Unit {0})) (others : Posts T) → Says m.0 (all_at (λ x. TicketOut) items ++ others) → AreApart (names_of items) → AreDisjoint (names_of items) (names_of others) → AllIn (names_of items ++ names_of others) m.0.names
      → (d : ℕ) → d ≡ length items → d ≤ m.0.left → Permits key s r id m at 64 (λ w. (w + d) % 2 ^ 64) (DrewOutBurst key.size key.seats items others m)
  draws_out_burst items others e once apart inn d d_is left =
      let w = slice_index s.words 64 in
      let is : w ≡ r.core.draws_out = r.encoded.words_are.draws_out_is in
      let few = (few_draws key s r id m at) in
      let was = all_at {A = T} (λ (x : Unit {0}). TicketOut) items in
      let next : (w + d) % 2 ^ 64 ≡ r.core.draws_out + length items = mod-eq_of_lt (omega (arith, is, few, left)) ∙ omega (arith, is, d_is) in
      let names = names-at {A = T} (λ (x : Unit {0}). TicketOut) items in
      let mine = all_left (names_of items) (names_of others) m.0.names inn in
      let stood = posted key s r id m at e.0 was e.1 (λ n p i. e.2 n p (post_left was others n p i)) (subst (λ l. AllIn l m.0.names) (sym names) mine) in
      let stay = posted key s r id m at e.0 others e.1 (λ n p i. e.2 n p (post_right was others n p i)) (all_right (names_of items) (names_of others) m.0.names inn) in
      let reached = reached_block key.size r.core was (lows key s r id m at (names_of was) (subst (λ l. AllIn l m.0.names) (sym names) mine)) (from_itself key.size r.core) (subst AreApart (sym names) once) stood in
      let drew = draws_out key.size r.encoded.some_cell r.core items r.reached.reached once stood in
      let words = subst (λ i. AreWords key.size r.core.upper r.core.lower r.core.draws_in i r.core.turn r.core.shut (set s.words 64 ((w + d) % 2 ^ 64))) next
      (words_draws_out key.size r.core.upper r.core.lower r.core.draws_in r.core.draws_out r.core.turn r.core.shut s.words r.encoded.words_are ((w + d) % 2 ^ 64)) in
      let turns = names-turns_out T r.core.draws_out items in
      let new = marks_back (λ x. made.Got x) drew.items in
      let Tells : ℕ → List (Mark T) → Type 0 = λ k past. (count gots (reverse past) ≡ k) × ArePut past k drew.items in
      let told : Tells r.core.draws_out r.core.past = (count_reverse gots r.core.past ∙ sym (K key s r id m at).draws_out, drew.put) in
      let q = quiet_block key s r id m at was (turns_out_from r.core.draws_out items) others (names ∙ sym turns) (subst (λ l. AreDisjoint l (names_of others)) (sym turns) apart) (subst (λ l. AllIn l m.0.names) (sym turns) mine) stood stay
      (out_at key.size (λ (x : Unit {0}). TicketOut) items (λ x i j. j)) (out_turns_out T key.size r.core.draws_out items) (block key.size r.core was) new r.core.upper r.core.lower r.core.draws_in (r.core.draws_out + length items) reached drew.changes
      (among_back (λ x. made.Got x) drew.items m.0.names (subst (λ l. AllIn l m.0.names) (sym drew.names) mine)) 64 (omega arith, omega arith) ((w + d) % 2 ^ 64) words (m.0.left - length items) (omega (arith, left, d_is)) (Each (turns_out_from r.core.draws_out items ++ others)) (inl refl) (Tells r.core.draws_out) told in
      let after : ℕ → QueueHolder T = λ k. (sees m.0.names m.0.noted (new ++ r.core.past) (Each (turns_out_from k items ++ others)) (m.0.left - length items), m.1) in (
        (after r.core.draws_out).0,
        keeps,
        tt,
        q.0,
        record {
          drawn = drew.items;
          names = drew.names;
          leaves = subst (λ k. Leaves (queue_object key.size key.seats) m new (Each (turns_out_from k items ++ others)) (m.0.left - length items) m.1 (Tells k) (after r.core.draws_out)) (sym is) q.1;
          few = omega (arith, is, few, left, d_is);
        },
      )

  module _ (items : List (ℕ × Unit {0})) (others : Posts T) (e : Says m.0 (all_at (λ x. SubLow) items ++ others)) (once : AreApart (names_of items)) (apart : AreDisjoint (names_of items) (names_of others)) (inn : AllIn (names_of items ++ names_of others) m.0.names) (d : ℕ) (d_is : d ≡ length items) (small : d ≤ 1024) where
    pub subs_burst : Permits key s r id m at 32 (λ w. (w + (2 ^ 64 - d)) % 2 ^ 64) (SubbedBurst key.size key.seats items others m)
    subs_burst =
        let w = slice_index s.words 32 in
        let j = granted_low w (length items) in
        let granted = take j items in
        let over = drop j items in
        let whole : granted ++ over ≡ items = take-append-drop j items in
        let named : names_of granted ++ names_of over ≡ names_of items = sym (names-append granted over) ∙ ap (λ l. names_of l) whole in
        let mine = all_left (names_of items) (names_of others) m.0.names inn in
        let parts = subst (λ l. AllIn l m.0.names) (sym named) mine in
        let was = all_at {A = T} (λ (x : Unit {0}). SubLow) items in
        let names = names-at {A = T} (λ (x : Unit {0}). SubLow) items in
        let a = all_at {A = T} (λ (x : Unit {0}). TicketOut) granted in
        let b = all_at {A = T} (λ (x : Unit {0}). BackLow) over in
        let now = a ++ b in
        let new = marks_back {A = T} (λ (x : Unit {0}). made.OverOut) over ++ marks_back (λ x. made.ClaimOut) granted in
        let same : names_of now ≡ names_of items = names-append a b ∙ ((λ i. names-at {A = T} (λ (x : Unit {0}). TicketOut) granted i ++ names-at {A = T} (λ (x : Unit {0}). BackLow) over i) ∙ named) in
        let x0 = subs key.size r.core granted over (subst (λ l. AreApart (names_of l)) (sym whole) once) (grants_low r.core w items r.encoded.words_are.lower_is) in
        let x = subst (λ l. Changes r.core (block key.size r.core (all_at (λ x. SubLow) l)) new r.core.upper (r.core.lower -ℤ pos (length l)) r.core.draws_in r.core.draws_out now) whole x0 in
        let own = among_append (λ (x : Mark T). x.seat) m.0.names (marks_back (λ x. made.OverOut) over) (marks_back (λ x. made.ClaimOut) granted)
        (among_back (λ x. made.OverOut) over m.0.names (all_right (names_of granted) (names_of over) m.0.names parts)) (among_back (λ x. made.ClaimOut) granted m.0.names (all_left (names_of granted) (names_of over) m.0.names parts)) in
        let stood = posted key s r id m at e.0 was e.1 (λ n p i. e.2 n p (post_left was others n p i)) (subst (λ l. AllIn l m.0.names) (sym names) mine) in
        let stay = posted key s r id m at e.0 others e.1 (λ n p i. e.2 n p (post_right was others n p i)) (all_right (names_of items) (names_of others) m.0.names inn) in
        let reached = reached_block key.size r.core was (lows key s r id m at (names_of was) (subst (λ l. AllIn l m.0.names) (sym names) mine)) (from_itself key.size r.core) (subst AreApart (sym names) once) stood in
        let words = subst (λ k. AreWords key.size r.core.upper (r.core.lower -ℤ pos k) r.core.draws_in r.core.draws_out r.core.turn r.core.shut (set s.words 32 ((w + (2 ^ 64 - d)) % 2 ^ 64))) d_is (lower_less key s r id m at d small) in
        let then = Each (now ++ others) in
        let q = quiet_block key s r id m at was now others (names ∙ sym same) (subst (λ l. AreDisjoint l (names_of others)) (sym same) apart) (subst (λ l. AllIn l m.0.names) (sym same) mine) stood stay
        (out_at key.size (λ (x : Unit {0}). SubLow) items (λ x i j. j)) (out_both key.size a b (out_at key.size (λ (x : Unit {0}). TicketOut) granted (λ x i j. j)) (out_at key.size (λ (x : Unit {0}). BackLow) over (λ x i j. j)))
        (block key.size r.core was) new r.core.upper (r.core.lower -ℤ pos (length items)) r.core.draws_in r.core.draws_out reached x own 32 (omega arith, omega arith) ((w + (2 ^ 64 - d)) % 2 ^ 64) words m.0.left (omega arith) then (inl refl) (TellsLower w) (lower_tells key s r id m at) in
        (sees m.0.names m.0.noted (new ++ r.core.past) then m.0.left, keeps, tt, q.0, q.1)

  module _ (items : List (ℕ × Unit {0})) (others : Posts T) (e : m.0.phase ≡ Some (Alike Idle)) (once : AreApart (names_of items)) (apart : AreDisjoint (names_of items) (names_of others)) (inn : AllIn (names_of items ++ names_of others) m.0.names) (whole : AllIn m.0.names (names_of items ++ names_of others)) (idle : PostsAreIdle others) where
    all_rest : (ps : Posts T) → PostsAreIdle ps → AllIn (names_of ps) m.0.names → Stand r.core ps
    all_rest [] idle inn = tt
    all_rest (q ∷ ps) idle inn = (r.stands id m.0 at q.0 inn.0 (Alike Idle) e ∙ sym idle.0, all_rest ps idle.1 inn.1)

    tested_low_so : (g : Unit {0} → Phase T) → ((x : Unit {0}) (i : ℕ) → InCell key.size (g x) i → ⊥) → (new : List (Mark T)) → AreAmong (λ (x : Mark T). x.seat) m.0.names new
        → Changes r.core (tested_low key.size r.core items) new r.core.upper r.core.lower r.core.draws_in r.core.draws_out (all_at g items) → (then : Phases T) → SaysAfter m.0.names (all_at g items ++ others) then
        → let v = sees m.0.names m.0.noted (new ++ r.core.past) then m.0.left in IsShownQueue key (stepped s 32 (slice_index s.words 32) id m.1 v keeps) × Leaves (queue_object key.size key.seats) m new then m.0.left m.1 (TellsLower (slice_index s.words 32)) (v, m.1)
    tested_low_so g out new own x then says =
        let was = all_at {A = T} (λ (x : Unit {0}). Idle) items in
        let names = names-at {A = T} (λ (x : Unit {0}). Idle) items in
        let same = names-at g items in
        let mine = all_left (names_of items) (names_of others) m.0.names inn in
        let stood = all_rest was (idle_all T items) (subst (λ l. AllIn l m.0.names) (sym names) mine) in
        let stay = all_rest others idle (all_right (names_of items) (names_of others) m.0.names inn) in
        quiet_block key s r id m at was (all_at g items) others (names ∙ sym same) (subst (λ l. AreDisjoint l (names_of others)) (sym same) apart) (subst (λ l. AllIn l m.0.names) (sym same) mine) stood stay
        (out_at key.size (λ (x : Unit {0}). Idle) items (λ x i j. j)) (out_at key.size g items out) (tested_low key.size r.core items) new r.core.upper r.core.lower r.core.draws_in r.core.draws_out
        (reached_tests_low key.size r.core items (lows key s r id m at (names_of items) mine) (from_itself key.size r.core) once stood) x own 32 (omega arith, omega arith) (slice_index s.words 32)
        (words_same key.size r.core.upper r.core.lower r.core.draws_in r.core.draws_out r.core.turn r.core.shut s.words r.encoded.words_are 32) m.0.left (omega arith) then says (TellsLower (slice_index s.words 32)) (lower_tells key s r id m at)

    pub tests_low_burst : Permits key s r id m at 32 (λ w. w) (TestedLowBurst key.size key.seats items others m)
    tests_low_burst =
        let w = slice_index s.words 32 in
        let word = r.encoded.words_are.lower_is in
        let mine = all_left (names_of items) (names_of others) m.0.names inn in
        elim (true_or_false (int_lt (pos 0) r.core.lower)) [
          | inl lt ↦ (
              let then = Each (all_at (λ x. SubLow) items ++ others) in
              let q = tested_low_so (λ x. SubLow) (λ x i j. j) [] tt (tests_stock key.size r.core items once lt) then (inl refl) in
              let high = positive_word w r.core.lower word lt in
              (sees m.0.names m.0.noted r.core.past then m.0.left, keeps, tt, q.0, record { stock = λ _. q.1; empty = λ low. absurd (omega (arith, high, low)) }))
          | inr ge ↦ (
              let new = marks_back {A = T} (λ (x : Unit {0}). made.NoItem) items in
              let again : SaysAfter m.0.names (all_at (λ (x : Unit {0}). Idle) items ++ others) (Alike Idle) = inr (
                refl,
                idle_both (all_at (λ (x : Unit {0}). Idle) items) others (idle_all T items) idle,
                subst (λ l. AllIn m.0.names l) (sym (names-append (all_at (λ (x : Unit {0}). Idle) items) others ∙ ap (λ l. l ++ names_of others) (names-at {A = T} (λ (x : Unit {0}). Idle) items))) whole,
              ) in
              let q = tested_low_so (λ x. Idle) (λ x i j. j) new (among_back (λ x. made.NoItem) items m.0.names mine) (tests_empty key.size r.core items once ge) (Alike Idle) again in
              let low = empty_word w r.core.lower word ge in
              (sees m.0.names m.0.noted (new ++ r.core.past) (Alike Idle) m.0.left, keeps, tt, q.0, record { stock = λ high. absurd (omega (arith, high, low)); empty = λ _. q.1 }))
        ]
