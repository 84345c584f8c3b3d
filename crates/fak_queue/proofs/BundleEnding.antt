-- The names of a bundle from one number to another end their calls together.
use Rattle.std.specs.Prelude.{take, drop, slice_range, slice_index_or, min}
use Rattle.std.proofs.lemmas.List.{append-nil, length-take, length-drop, take-append-drop}
use Rattle.fak_model.specs.declared.queue.Kind.TheVariants as made
use Rattle.fak_model.specs.Seats.{Begins}
use Rattle.fak_model.specs.Shown.{Leaves}
use Rattle.fak_core.specs.declared.queue.phase.Phase.TheVariants.{Idle, TurnIn, EndInsert}
use Rattle.fak_core.specs.QueueBlocks.{Posts, names_of, AreApart, all_at, marks_back}
use Rattle.fak_core.proofs.QueueBlocks.{apart_left, apart_right}
use Rattle.fak_queue.specs.Bursts.{AllIn, LeavesMarks, EndedBurst, once_rest, posts_to, tickets_of}
use Rattle.fak_queue.specs.Bundles.{SaysOf, MadeFrom, Filling, FillsOn, FilledOn, fills_at, filled_at, LastEnds}
use Rattle.fak_queue.proofs.BurstNames.{all_of, makes_step, begins_trans}
use Rattle.fak_queue.proofs.BurstPosts.{posts_here, posts_else}
use Rattle.fak_queue.proofs.BundleLists.{item_in, item_is, item_low, item_drop, item_take, number_of, one_number, tickets_names, tickets_length, in_tickets, marks_on, marks_turned, no_marks, ticket_mark, tickets_item}
use Rattle.fak_queue.proofs.LastMarks.{last_in_block}
use Rattle.fak_queue.proofs.Common.{Each, QueueHolder, queue_object, Kind, Phase, IsPost, mark, seat_of, made_by, marks_of, item_at, In, ◌≡◌, ◌⊎◌, ℕ, ◌+◌, ◌-◌, ◌<◌, ◌≤◌, Bool, true, false, List, [], ◌∷◌, ◌++◌, length, reverse, refl, sym, ap, ◌∙◌, subst, inl, inr, arith, Some, le_or_lt, true_or_false, append_assoc, common_steps}

each_same : {T : Type 0} {a b : Posts T} → Some (Each a) ≡ Some (Each b) → a ≡ b
each_same e = cc

-- ---- the names from lo to hi

module _ (names : List ℕ) (lo hi : ℕ) (apart : AreApart names) (order : lo ≤ hi) (fit : hi ≤ length names) where
  pub part_length : length (slice_range names lo hi) ≡ hi - lo
  part_length =
      let d = length-drop lo names in
      length-take (hi - lo) (drop lo names) ∙ min_first (hi - lo) (length (drop lo names)) (omega (arith, d, fit, order))
    where
      min_first : (a b : ℕ) → a ≤ b → min a b ≡ a
      min_first a b le = grind (arith, common_steps, min)

  pub part_apart : AreApart (slice_range names lo hi)
  part_apart =
      let back : AreApart (drop lo names) = apart_right (take lo names) (drop lo names) (subst AreApart (sym (take-append-drop lo names)) apart) in
      apart_left (take (hi - lo) (drop lo names)) (drop (hi - lo) (drop lo names)) (subst AreApart (sym (take-append-drop (hi - lo) (drop lo names))) back)

  pub part_item : (i : ℕ) → i < hi - lo → item_at (slice_range names lo hi) i ≡ item_at names (lo + i)
  part_item i low = item_take (drop lo names) (hi - lo) i low ∙ item_drop names lo i

  pub number_in_part : (n : ℕ) → In n (slice_range names lo hi) → (i : ℕ) × (lo ≤ i) × (i < hi) × (item_at names i ≡ Some n)
  number_in_part n k =
      let j = number_of (slice_range names lo hi) n k in
      let low : j.0 < hi - lo = (let l = item_low (slice_range names lo hi) j.0 n j.1 in let e = part_length in omega (arith, l, e)) in
      (lo + j.0, omega arith, omega (arith, low, order), sym (part_item j.0 low) ∙ j.1)

  pub item_of_part : (i n : ℕ) → item_at names i ≡ Some n → lo ≤ i → i < hi → item_at (slice_range names lo hi) (i - lo) ≡ Some n
  item_of_part i n e above below =
      let z : lo + (i - lo) ≡ i = omega (arith, above) in
      part_item (i - lo) (omega (arith, above, below)) ∙ (ap (item_at names) z ∙ e)

  pub in_part : (i n : ℕ) → item_at names i ≡ Some n → lo ≤ i → i < hi → In n (slice_range names lo hi)
  in_part i n e above below = item_in (slice_range names lo hi) (i - lo) n (item_of_part i n e above below)

  pub not_in_part : (i n : ℕ) → item_at names i ≡ Some n → (i < lo) ⊎ (hi ≤ i) → In n (slice_range names lo hi) → ⊥
  not_in_part i n e out k =
      let j = number_in_part n k in
      let same : i ≡ j.0 = one_number names apart i j.0 n e j.3 in
      elim out [ inl x ↦ (let a = j.1 in omega (arith, x, same, a)) | inr x ↦ (let b = j.2 in omega (arith, x, same, b)) ]

  pub ticket_count : (k : ℕ) → hi - lo ≡ length (tickets_of (slice_range names lo hi) k)
  ticket_count k = sym (tickets_length (slice_range names lo hi) k ∙ part_length)

  pub ticket_apart : (k : ℕ) → AreApart (names_of (tickets_of (slice_range names lo hi) k))
  ticket_apart k = subst AreApart (sym (tickets_names (slice_range names lo hi) k)) part_apart

  pub ticket_in : (k : ℕ) (own : List ℕ) → own ≡ names → AllIn (names_of (tickets_of (slice_range names lo hi) k)) own
  ticket_in k own is = all_of _ own (λ n i.
      let j = number_in_part n (subst (In n) (tickets_names (slice_range names lo hi) k) i) in
      subst (In n) (sym is) (item_in names j.0 n j.3))

  -- each of these names makes one more mark
  pub made_ends : {T : Type 0} {size seats : ℕ} {m a c : QueueHolder T} (κ : Kind T) (kinds_at more_at : ℕ → List (Kind T)) (k : ℕ) → ((i n : ℕ) → made_by n (more_at i) ≡ made_by n (kinds_at i) ++ mark n κ ∷ [])
      → MadeFrom size seats names lo hi kinds_at m a → a.0.names ≡ names → c.0.left ≡ a.0.left → LeavesMarks size seats (marks_back (λ (t : ℕ). κ) (tickets_of (slice_range names lo hi) k)) a c → MadeFrom size seats names lo hi more_at m c
  made_ends {T} {m = m} {a = a} {c = c} κ kinds_at more_at k adds so own left steps =
      let ss = tickets_of (slice_range names lo hi) k in
      let f : ℕ → Kind T = λ t. κ in
      let mine : (i n : ℕ) → item_at names i ≡ Some n → marks_of seat_of n (reverse c.0.seen) ≡ marks_of seat_of n (reverse a.0.seen) ++ marks_of seat_of n (marks_on f ss) = λ i n e.
      steps.mine n (subst (In n) (sym own) (item_in names i n e)) ∙ ap (λ h. marks_of seat_of n (reverse a.0.seen) ++ marks_of seat_of n h) (marks_turned f ss) in
      record {
        names_are = steps.names ∙ so.names_are;
        left = left ∙ so.left;
        begins = begins_trans (reverse m.0.seen) (reverse a.0.seen) (reverse c.0.seen) so.begins steps.begins;
        inside = λ i n e above below.
            let one = ticket_mark f (slice_range names lo hi) k (i - lo) n part_apart (item_of_part i n e above below) in
            mine i n e ∙ ((λ j. so.inside i n e above below j ++ one j) ∙ (append_assoc (marks_of seat_of n (reverse m.0.seen)) (made_by n (kinds_at i)) (mark n κ ∷ []) ∙ ap (λ h. marks_of seat_of n (reverse m.0.seen) ++ h) (sym (adds i n))));
        outside = λ i n e out.
            let none = no_marks f ss n (λ z. not_in_part i n e out (subst (In n) (tickets_names (slice_range names lo hi) k) z)) in
            mine i n e ∙ (ap (λ h. marks_of seat_of n (reverse a.0.seen) ++ h) none ∙ (append-nil (marks_of seat_of n (reverse a.0.seen)) ∙ so.outside i n e out));
        lawful = record { lawful = steps.lawful; named = steps.named };
      }

-- ---- insertions

module _ {T : Type 0} {size seats : ℕ} (names : List ℕ) (k lo f granted : ℕ) (was kept : List T) (m a : QueueHolder T) (apart : AreApart names) (so : FillsOn size seats names k lo f granted was kept m a) (some : lo < f) where
  order : lo ≤ f
  order = omega (arith, some)

  fit : f ≤ length names
  fit = let o = so.stands.order in omega (arith, o.1, o.2)

  pub end_count : f - lo ≡ length (tickets_of (slice_range names lo f) (k + lo))
  end_count = ticket_count names lo f apart order fit (k + lo)

  pub end_few : length names ≤ 1024 → f - lo ≤ 1024
  end_few small = let le = fit in omega (arith, le, small)

  pub end_names : AreApart (names_of (tickets_of (slice_range names lo f) (k + lo))) × AllIn (names_of (tickets_of (slice_range names lo f) (k + lo))) a.0.names
  end_names = (ticket_apart names lo f apart order fit (k + lo), ticket_in names lo f apart order fit (k + lo) a.0.names so.stands.all_are)

  pub end_says : (all : Posts T) × (a.0.phase ≡ Some (Each all))
  end_says =
      let n = slice_index_or names lo 0 in
      let e = item_is names lo (let le = fit in omega (arith, some, le)) in
      let s = so.stands.full lo n e (omega arith) some in
      (s.0, s.1)

  pub end_stands : (n : ℕ) (p : Phase T) → IsPost n p (all_at (λ t. EndInsert t) (tickets_of (slice_range names lo f) (k + lo))) → SaysOf a.0 n p
  end_stands n p o =
      let j = in_tickets (λ t. EndInsert t) (slice_range names lo f) (k + lo) n p o in
      let i = j.0 in
      let r = number_in_part names lo f apart order fit n (item_in (slice_range names lo f) i n j.1) in
      let low : i < f - lo = (let l = item_low (slice_range names lo f) i n j.1 in let e = part_length names lo f apart order fit in omega (arith, l, e)) in
      let there : item_at names (lo + i) ≡ Some n = sym (part_item names lo f apart order fit i low) ∙ j.1 in
      let t : k + (lo + i) ≡ k + lo + i = omega arith in
      subst (SaysOf a.0 n) (ap (λ z. EndInsert z) t ∙ sym j.2) (so.stands.full (lo + i) n there (omega arith) (omega (arith, low, order)))

  -- once all granted names are done, each name is among those that end, or is idle
  at_rest : granted ≤ f → (n : ℕ) → In n a.0.names → In n (names_of (tickets_of (slice_range names lo f) (k + lo))) ⊎ SaysOf a.0 n Idle
  at_rest whole n i =
      let j = number_of names n (subst (In n) so.stands.all_are i) in
      elim (le_or_lt lo j.0) [
        | inr low ↦ inr (so.stands.done j.0 n j.1 low)
        | inl above ↦ elim (le_or_lt f j.0) [
          | inl high ↦ inr (so.stands.rests j.0 n j.1 (omega (arith, whole, high)))
          | inr below ↦ inl (subst (In n) (sym (tickets_names (slice_range names lo f) (k + lo))) (in_part names lo f apart order fit j.0 n j.1 above below))
        ]
      ]

  pub end_rest : (rests : Bool) → (rests ≡ true → granted ≤ f) → rests ≡ true → (n : ℕ) → In n a.0.names → In n (names_of (tickets_of (slice_range names lo f) (k + lo))) ⊎ SaysOf a.0 n Idle
  end_rest rests whole e = at_rest (whole e)

  module _ (rests : Bool) (c : QueueHolder T) (told : EndedBurst size seats (tickets_of (slice_range names lo f) (k + lo)) rests a c) (whole : rests ≡ true → granted ≤ f) (part_only : granted ≤ f → rests ≡ true) where
    leaves : Leaves (queue_object size seats) a (marks_back (λ t. made.EndIn) (tickets_of (slice_range names lo f) (k + lo))) (once_rest rests (names_of (tickets_of (slice_range names lo f) (k + lo))) end_says.0) a.0.left a.1 (λ past. Unit {0}) c
    leaves = told end_says.0 end_says.1

    stands_then : rests ≡ false → Filling names k f f granted kept c.0
    stands_then e =
        let all = end_says.0 in
        let ns = names_of (tickets_of (slice_range names lo f) (k + lo)) in
        let same = tickets_names (slice_range names lo f) (k + lo) in
        let phase : c.0.phase ≡ Some (Each (posts_to ns Idle all)) = ap (λ (x : QueueHolder T). x.0.phase) leaves.after_is ∙ ap (λ b. Some (once_rest b ns all)) e in
        let here : (n : ℕ) (p : Phase T) → SaysOf a.0 n p → IsPost n p all = λ n p s. subst (IsPost n p) (each_same (sym s.1 ∙ end_says.1)) s.2 in
        let other : (i n : ℕ) (p : Phase T) → item_at names i ≡ Some n → (i < lo) ⊎ (f ≤ i) → SaysOf a.0 n p → SaysOf c.0 n p = λ i n p it out s.
        (posts_to ns Idle all, phase, posts_else ns Idle all n p (λ z. not_in_part names lo f apart order fit i n it out (subst (In n) same z)) (here n p s)) in
        let w = so.stands in
        record {
          all_are = ap (λ (x : QueueHolder T). x.0.names) leaves.after_is ∙ w.all_are;
          done = λ i n it low. elim (le_or_lt lo i) [
            | inr less ↦ other i n Idle it (inl less) (w.done i n it less)
            | inl above ↦ (posts_to ns Idle all, phase, posts_here ns (EndInsert (k + i)) Idle all n (subst (In n) (sym same) (in_part names lo f apart order fit i n it above low)) (here n (EndInsert (k + i)) (w.full i n it above low)))
          ];
          full = λ i n it above below. absurd (omega (arith, above, below));
          waits = λ i n x it above below at. other i n (TurnIn (k + i) x) it (inr above) (w.waits i n x it above below at);
          rests = λ i n it above. let o = w.order in other i n Idle it (inr (omega (arith, above, o.1))) (w.rests i n it above);
          some = w.some;
          order = (omega arith, w.order.1, w.order.2);
        }

    pub end_begins : Begins (reverse a.0.seen) (reverse c.0.seen)
    end_begins = (makes_step leaves).begins

    pub end_last : LastEnds made.EndIn names lo f c
    end_last = λ i n e above last.
        let t = tickets_item (slice_range names lo f) (k + lo) (i - lo) n (item_of_part names lo f apart order fit i n e above (omega (arith, last))) in
        let long = end_count in
        last_in_block (λ (t : ℕ). made.EndIn) (tickets_of (slice_range names lo f) (k + lo)) (i - lo) n t.0 t.1 (omega (arith, above, last, long)) leaves.past c.0.seen (ap (λ (x : QueueHolder T). x.0.seen) leaves.after_is)

    pub filled_on : FilledOn size seats names k lo f granted was kept m c
    filled_on = record {
      marks = made_ends names lo f apart order fit made.EndIn (fills_at k) (filled_at k) (k + lo) (λ i n. refl) so.marks so.stands.all_are (ap (λ (x : QueueHolder T). x.0.left) leaves.after_is) (makes_step leaves);
      stands = λ more. elim (true_or_false rests) [ inl e ↦ (let le = whole e in absurd (omega (arith, le, more))) | inr e ↦ stands_then e ];
      rests = λ done. ap (λ (x : QueueHolder T). x.0.phase) leaves.after_is ∙ ap (λ b. Some (once_rest b (names_of (tickets_of (slice_range names lo f) (k + lo))) end_says.0)) (part_only done);
      slots = ap (λ (x : QueueHolder T). x.1) leaves.after_is ∙ so.slots;
      kept_are = so.kept_are;
    }

-- nothing was filled
pub filled_none : {T : Type 0} {size seats : ℕ} (names : List ℕ) (k lo f granted : ℕ) (was kept : List T) (m a : QueueHolder T) → FillsOn size seats names k lo f granted was kept m a → f ≡ lo → lo < granted → FilledOn size seats names k lo f granted was kept m a
filled_none {T} {size} {seats} names k lo f granted was kept m a so e more = record {
  marks = record {
    names_are = so.marks.names_are;
    left = so.marks.left;
    begins = so.marks.begins;
    inside = λ i n it above below. absurd (omega (arith, above, below, e));
    outside = so.marks.outside;
    lawful = so.marks.lawful;
  };
  stands = λ less. subst (λ z. Filling names k z f granted kept a.0) (sym e) so.stands;
  rests = λ done. absurd (omega (arith, done, e, more));
  slots = so.slots;
  kept_are = so.kept_are;
}
