-- The names of a bundle that have emptied their cells end their deletions together.
use Rattle.std.specs.Prelude.{slice_range, slice_index_or}
use Rattle.fak_model.specs.declared.queue.Kind.TheVariants as made
use Rattle.fak_model.specs.Shown.{Leaves}
use Rattle.fak_core.specs.declared.queue.phase.Phase.TheVariants.{Idle, TurnOut, EndDelete}
use Rattle.fak_core.specs.QueueBlocks.{Posts, names_of, AreApart, all_at, marks_back}
use Rattle.fak_queue.specs.Bursts.{AllIn, EndedOutBurst, once_rest, posts_to, tickets_of}
use Rattle.fak_model.specs.Seats.{Begins}
use Rattle.fak_queue.specs.Bundles.{SaysOf, Emptying, EmptiesOn, EmptiedOn, takes_at, taken_at, LastEnds}
use Rattle.fak_queue.proofs.BurstNames.{makes_step}
use Rattle.fak_queue.proofs.BurstPosts.{posts_here, posts_else}
use Rattle.fak_queue.proofs.BundleLists.{item_in, item_is, item_low, number_of, tickets_names, tickets_item, in_tickets, put_more}
use Rattle.fak_queue.proofs.Common.{Each, QueueHolder, queue_object, Phase, IsPost, item_at, In, ◌≡◌, ◌⊎◌, ℕ, ◌+◌, ◌-◌, ◌<◌, ◌≤◌, Bool, true, false, List, length, reverse, refl, sym, ap, ◌∙◌, subst, inl, inr, arith, Some, le_or_lt, true_or_false}
use Rattle.fak_queue.proofs.LastMarks.{last_in_block}
use Rattle.fak_queue.proofs.BundleEnding.{ticket_count, ticket_apart, ticket_in, number_in_part, part_length, part_item, item_of_part, in_part, not_in_part, made_ends}

each_same : {T : Type 0} {a b : Posts T} → Some (Each a) ≡ Some (Each b) → a ≡ b
each_same e = cc

-- ---- deletions

module _ {T : Type 0} {size seats : ℕ} (names : List ℕ) (k lo f granted : ℕ) (was got : List T) (m a : QueueHolder T) (apart : AreApart names) (so : EmptiesOn size seats names k lo f granted was got m a) (some : lo < f) where
  order : lo ≤ f
  order = omega (arith, some)

  fit : f ≤ length names
  fit = let o = so.stands.order in omega (arith, o.1, o.2)

  pub end_count : f - lo ≡ length (tickets_of (slice_range names lo f) (k + lo))
  end_count = ticket_count names lo f apart order fit (k + lo)

  pub end_few : length names ≤ 1024 → f - lo ≤ 1024
  end_few small = let le = fit in omega (arith, le, small)

  pub end_names : AreApart (names_of (tickets_of (slice_range names lo f) (k + lo))) × AllIn (names_of (tickets_of (slice_range names lo f) (k + lo))) a.0.names
  end_names = (ticket_apart names lo f apart order fit (k + lo), ticket_in names lo f apart order fit (k + lo) a.0.names so.stands.all_are)

  pub end_says : (all : Posts T) × (a.0.phase ≡ Some (Each all))
  end_says =
      let n = slice_index_or names lo 0 in
      let e = item_is names lo (let le = fit in omega (arith, some, le)) in
      let s = so.stands.free lo n e (omega arith) some in
      (s.0, s.1)

  pub end_stands : (n : ℕ) (p : Phase T) → IsPost n p (all_at (λ t. EndDelete t) (tickets_of (slice_range names lo f) (k + lo))) → SaysOf a.0 n p
  end_stands n p o =
      let j = in_tickets (λ t. EndDelete t) (slice_range names lo f) (k + lo) n p o in
      let i = j.0 in
      let r = number_in_part names lo f apart order fit n (item_in (slice_range names lo f) i n j.1) in
      let low : i < f - lo = (let l = item_low (slice_range names lo f) i n j.1 in let e = part_length names lo f apart order fit in omega (arith, l, e)) in
      let there : item_at names (lo + i) ≡ Some n = sym (part_item names lo f apart order fit i low) ∙ j.1 in
      let t : k + (lo + i) ≡ k + lo + i = omega arith in
      subst (SaysOf a.0 n) (ap (λ z. EndDelete z) t ∙ sym j.2) (so.stands.free (lo + i) n there (omega arith) (omega (arith, low, order)))

  -- once all granted names are done, each name is among those that end, or is idle
  at_rest : granted ≤ f → (n : ℕ) → In n a.0.names → In n (names_of (tickets_of (slice_range names lo f) (k + lo))) ⊎ SaysOf a.0 n Idle
  at_rest whole n i =
      let j = number_of names n (subst (In n) so.stands.all_are i) in
      elim (le_or_lt lo j.0) [
        | inr low ↦ inr (so.stands.done j.0 n j.1 low)
        | inl above ↦ elim (le_or_lt f j.0) [
          | inl high ↦ inr (so.stands.rests j.0 n j.1 (omega (arith, whole, high)))
          | inr below ↦ inl (subst (In n) (sym (tickets_names (slice_range names lo f) (k + lo))) (in_part names lo f apart order fit j.0 n j.1 above below))
        ]
      ]

  pub end_rest : (rests : Bool) → (rests ≡ true → granted ≤ f) → rests ≡ true → (n : ℕ) → In n a.0.names → In n (names_of (tickets_of (slice_range names lo f) (k + lo))) ⊎ SaysOf a.0 n Idle
  end_rest rests whole e = at_rest (whole e)

  module _ (rests : Bool) (c : QueueHolder T) (told : EndedOutBurst size seats (tickets_of (slice_range names lo f) (k + lo)) rests a c) (whole : rests ≡ true → granted ≤ f) (part_only : granted ≤ f → rests ≡ true) where
    leaves : Leaves (queue_object size seats) a (marks_back (λ t. made.EndOut) (tickets_of (slice_range names lo f) (k + lo))) (once_rest rests (names_of (tickets_of (slice_range names lo f) (k + lo))) end_says.0) a.0.left a.1 (λ past. Unit {0}) c
    leaves = told end_says.0 end_says.1

    stands_then : rests ≡ false → Emptying names k f f granted c.0
    stands_then e =
        let all = end_says.0 in
        let ns = names_of (tickets_of (slice_range names lo f) (k + lo)) in
        let same = tickets_names (slice_range names lo f) (k + lo) in
        let phase : c.0.phase ≡ Some (Each (posts_to ns Idle all)) = ap (λ (x : QueueHolder T). x.0.phase) leaves.after_is ∙ ap (λ b. Some (once_rest b ns all)) e in
        let here : (n : ℕ) (p : Phase T) → SaysOf a.0 n p → IsPost n p all = λ n p s. subst (IsPost n p) (each_same (sym s.1 ∙ end_says.1)) s.2 in
        let other : (i n : ℕ) (p : Phase T) → item_at names i ≡ Some n → (i < lo) ⊎ (f ≤ i) → SaysOf a.0 n p → SaysOf c.0 n p = λ i n p it out s.
        (posts_to ns Idle all, phase, posts_else ns Idle all n p (λ z. not_in_part names lo f apart order fit i n it out (subst (In n) same z)) (here n p s)) in
        let w = so.stands in
        record {
          all_are = ap (λ (x : QueueHolder T). x.0.names) leaves.after_is ∙ w.all_are;
          done = λ i n it low. elim (le_or_lt lo i) [
            | inr less ↦ other i n Idle it (inl less) (w.done i n it less)
            | inl above ↦ (posts_to ns Idle all, phase, posts_here ns (EndDelete (k + i)) Idle all n (subst (In n) (sym same) (in_part names lo f apart order fit i n it above low)) (here n (EndDelete (k + i)) (w.free i n it above low)))
          ];
          free = λ i n it above below. absurd (omega (arith, above, below));
          waits = λ i n it above below. other i n (TurnOut (k + i)) it (inr above) (w.waits i n it above below);
          rests = λ i n it above. let o = w.order in other i n Idle it (inr (omega (arith, above, o.1))) (w.rests i n it above);
          order = (omega arith, w.order.1, w.order.2);
        }

    pub end_begins : Begins (reverse a.0.seen) (reverse c.0.seen)
    end_begins = (makes_step leaves).begins

    pub end_last : LastEnds made.EndOut names lo f c
    end_last = λ i n e above last.
        let t = tickets_item (slice_range names lo f) (k + lo) (i - lo) n (item_of_part names lo f apart order fit i n e above (omega (arith, last))) in
        let long = end_count in
        last_in_block (λ (t : ℕ). made.EndOut) (tickets_of (slice_range names lo f) (k + lo)) (i - lo) n t.0 t.1 (omega (arith, above, last, long)) leaves.past c.0.seen (ap (λ (x : QueueHolder T). x.0.seen) leaves.after_is)

    pub emptied_on : EmptiedOn size seats names k lo f granted was got m c
    emptied_on = record {
      marks = made_ends names lo f apart order fit made.EndOut (takes_at k) (taken_at k) (k + lo) (λ i n. refl) so.marks so.stands.all_are (ap (λ (x : QueueHolder T). x.0.left) leaves.after_is) (makes_step leaves);
      stands = λ more. elim (true_or_false rests) [ inl e ↦ (let le = whole e in absurd (omega (arith, le, more))) | inr e ↦ stands_then e ];
      rests = λ done. ap (λ (x : QueueHolder T). x.0.phase) leaves.after_is ∙ ap (λ b. Some (once_rest b (names_of (tickets_of (slice_range names lo f) (k + lo))) end_says.0)) (part_only done);
      slots = ap (λ (x : QueueHolder T). x.1) leaves.after_is ∙ so.slots;
      many = so.many;
      same = so.same;
      put = λ i x above below e. put_more (reverse a.0.seen) (reverse c.0.seen) (k + i) x (makes_step leaves).begins (so.put i x above below e);
    }

-- nothing was emptied
pub emptied_none : {T : Type 0} {size seats : ℕ} (names : List ℕ) (k lo f granted : ℕ) (was got : List T) (m a : QueueHolder T) → EmptiesOn size seats names k lo f granted was got m a → f ≡ lo → lo < granted → EmptiedOn size seats names k lo f granted was got m a
emptied_none {T} {size} {seats} names k lo f granted was got m a so e more = record {
  marks = record {
    names_are = so.marks.names_are;
    left = so.marks.left;
    begins = so.marks.begins;
    inside = λ i n it above below. absurd (omega (arith, above, below, e));
    outside = so.marks.outside;
    lawful = so.marks.lawful;
  };
  stands = λ less. subst (λ z. Emptying names k z f granted a.0) (sym e) so.stands;
  rests = λ done. absurd (omega (arith, done, e, more));
  slots = so.slots;
  many = so.many;
  same = so.same;
  put = so.put;
}
