-- A bundle empties its cells, one name after another.
use Rattle.std.specs.Prelude.{suc, slice_index_or}
use Rattle.fak_model.specs.declared.queue.Kind.TheVariants as made
use Rattle.fak_model.proofs.Deciding.{same_or_not}
use Rattle.fak_core.specs.declared.queue.phase.Phase.TheVariants.{Idle, TurnOut, LoadItem, EndDelete}
use Rattle.fak_core.specs.QueueBlocks.{AreApart}
use Rattle.fak_queue.specs.Bundles.{SaysOf, StepsOn, StaysOut, FindsItem, LooksAtOut, TakesIt, IsLawful, Emptying, EmptiesOn, takes_at}
use Rattle.fak_queue.proofs.BurstNames.{makes_then}
use Rattle.fak_queue.proofs.Turning.{took}
use Rattle.fak_queue.proofs.BundleLists.{item_in, item_is, one_number, made_none, made_still, made_next, item_push, item_last, put_more}
use Rattle.fak_queue.proofs.Common.{Has, QueueHolder, Phase, item_at, items_put, In, ◌≡◌, ◌≢◌, ℕ, ◌+◌, ◌-◌, ◌%◌, ◌<◌, true, false, List, [], ◌∷◌, ◌++◌, length, length-append, reverse, refl, sym, ap, ◌∙◌, subst, inl, inr, arith, Some}

pub empties_none : {T : Type 0} {size seats : ℕ} (names : List ℕ) (k f granted : ℕ) (was : List T) (m : QueueHolder T) → IsLawful size seats m.0 → Emptying names k f f granted m.0 → m.1 ≡ [] → EmptiesOn size seats names k f f granted was was m m
empties_none names k f granted was m law stands slots = record {
  marks = made_none names f (takes_at k) m law;
  stands = stands;
  slots = slots;
  many = omega arith;
  same = λ i low. refl;
  put = λ i x above below e. absurd (omega (arith, above, below));
}

module _ {T : Type 0} {size seats : ℕ} (names : List ℕ) (k lo f granted : ℕ) (was got : List T) (m a : QueueHolder T) (apart : AreApart names) (so : EmptiesOn size seats names k lo f granted was got m a)
    (n : ℕ) (here : item_at names f ≡ Some n) (more : f < granted) where
  -- another name is not this one
  far : (i t : ℕ) → item_at names i ≡ Some t → i ≢ f → t ≢ n
  far i t e ne z = ne (one_number names apart i f t e (subst (λ y. item_at names f ≡ Some y) (sym z) here))

  pub waits_here : SaysOf a.0 n (TurnOut (k + f))
  waits_here = so.stands.waits f n here (omega arith) more

  pub is_named : In n a.0.names
  is_named = subst (In n) (sym so.stands.all_are) (item_in names f n here)

  module _ (b : QueueHolder T) (stays : StaysOut size seats n (k + f) a b) where
    pub empties_stay : EmptiesOn size seats names k lo f granted was got m b
    empties_stay =
        let s = stays.steps in
        let w = so.stands in
        record {
          marks = made_still so.marks w.all_are s.left s.makes;
          stands = record {
            all_are = s.makes.names ∙ w.all_are;
            done = λ i t e low. let o = w.order in s.others t Idle (far i t e (λ z. omega (arith, low, z, o.0))) (w.done i t e low);
            free = λ i t e above below. s.others t (EndDelete (k + i)) (far i t e (λ z. omega (arith, below, z))) (w.free i t e above below);
            waits = λ i t e above below. elim (same_or_not i f) [
              | inl z ↦ (
                  let same : t ≡ n = (let g : Some t ≡ Some n = sym e ∙ (ap (item_at names) z ∙ here) in cc) in
                  subst (λ (v : ℕ × ℕ). SaysOf b.0 v.0 (TurnOut (k + v.1))) (λ j. (sym same j, sym z j)) s.here)
              | inr ne ↦ s.others t (TurnOut (k + i)) (far i t e ne) (w.waits i t e above below)
            ];
            rests = λ i t e above. s.others t Idle (far i t e (λ z. omega (arith, above, z, more))) (w.rests i t e above);
            order = w.order;
          };
          slots = s.carries ∙ so.slots;
          many = so.many;
          same = so.same;
          put = λ i x above below e. put_more (reverse a.0.seen) (reverse b.0.seen) (k + i) x s.makes.begins (so.put i x above below e);
        }

  module _ (b c : QueueHolder T) (looked : FindsItem size seats n (k + f) a b) (takes : TakesIt size seats n (k + f) b c) where
    others : (t : ℕ) (w : Phase T) → t ≢ n → SaysOf a.0 t w → SaysOf c.0 t w
    others t w ne s = takes.others t w ne (looked.steps.others t w ne s)

    pub empties_next : EmptiesOn size seats names k lo (suc f) granted was (got ++ looked.item ∷ []) m c
    empties_next =
        let w = so.stands in
        let o = w.order in
        let many = so.many in
        let l = length-append got (looked.item ∷ []) in
        let both = makes_then looked.steps.makes takes.makes in
        record {
          marks = made_next so.marks w.all_are (takes.left ∙ looked.steps.left) apart n (made.Take (k + f)) here o.0 refl both;
          stands = record {
            all_are = both.names ∙ w.all_are;
            done = λ i t e low. others t Idle (far i t e (λ z. omega (arith, low, z, o.0))) (w.done i t e low);
            free = λ i t e above below. elim (same_or_not i f) [
              | inl z ↦ (
                  let same : t ≡ n = (let g : Some t ≡ Some n = sym e ∙ (ap (item_at names) z ∙ here) in cc) in
                  subst (λ (v : ℕ × ℕ). SaysOf c.0 v.0 (EndDelete (k + v.1))) (λ j. (sym same j, sym z j)) takes.here)
              | inr ne ↦ others t (EndDelete (k + i)) (far i t e ne) (w.free i t e above (omega (arith, below, ne)))
            ];
            waits = λ i t e above below. others t (TurnOut (k + i)) (far i t e (λ z. omega (arith, above, z))) (w.waits i t e (omega (arith, above)) below);
            rests = λ i t e above. others t Idle (far i t e (λ z. omega (arith, above, z, more))) (w.rests i t e above);
            order = (omega (arith, o.0), omega (arith, more), o.2);
          };
          slots = takes.carries;
          many = omega (arith, l, many, o.0);
          same = λ i low. item_push got looked.item i (omega (arith, low, many)) ∙ so.same i low;
          put = λ i x above below e. elim (same_or_not i f) [
            | inl z ↦ (
                let at : length was + (i - lo) ≡ length got = omega (arith, many, z) in
                let same : looked.item ≡ x = (let g : Some looked.item ≡ Some x = sym (item_last got looked.item) ∙ (ap (item_at (got ++ looked.item ∷ [])) (sym at) ∙ e) in cc) in
                subst (λ (v : ℕ × T). item_at (items_put (reverse c.0.seen)) (k + v.0) ≡ Some v.1) (λ j. (sym z j, same j)) (put_more (reverse b.0.seen) (reverse c.0.seen) (k + f) looked.item takes.makes.begins looked.put))
            | inr ne ↦ (
                let less : length was + (i - lo) < length got = omega (arith, many, above, below, ne) in
                put_more (reverse a.0.seen) (reverse c.0.seen) (k + i) x both.begins (so.put i x above (omega (arith, below, ne)) (sym (item_push got looked.item (length was + (i - lo)) less) ∙ e)))
          ];
        }

-- ---- the loop, at the name of this number

module _ {T : Type 0} {size seats : ℕ} (names : List ℕ) (k lo f granted : ℕ) (was got : List T) (m a : QueueHolder T) (apart : AreApart names) (so : EmptiesOn size seats names k lo f granted was got m a) (more : f < granted) (t : ℕ) (t_is : t ≡ k + f) where
  name_here : item_at names f ≡ Some (slice_index_or names f 0)
  name_here = let o = so.stands.order in item_is names f (omega (arith, o.2, more))

  pub named_now : In (slice_index_or names f 0) a.0.names
  named_now = is_named names k lo f granted was got m a apart so (slice_index_or names f 0) name_here more

  pub waits_now : SaysOf a.0 (slice_index_or names f 0) (TurnOut t)
  waits_now = subst (λ z. SaysOf a.0 (slice_index_or names f 0) (TurnOut z)) (sym t_is) (waits_here names k lo f granted was got m a apart so (slice_index_or names f 0) name_here more)

  pub stays_told : (b : QueueHolder T) → LooksAtOut size seats (slice_index_or names f 0) t false a b → EmptiesOn size seats names k lo f granted was got m b
  stays_told b told = empties_stay names k lo f granted was got m a apart so (slice_index_or names f 0) name_here more b (subst (λ z. StaysOut size seats (slice_index_or names f 0) z a b) t_is told)

  -- the cell was not filled
  pub early_told : (b : QueueHolder T) → LooksAtOut size seats (slice_index_or names f 0) t false a b → Has (made.Fill (k + f)) (reverse b.0.seen) → ⊥
  early_told b told = (subst (λ z. StaysOut size seats (slice_index_or names f 0) z a b) t_is told).unfilled

  module _ (b : QueueHolder T) (told : LooksAtOut size seats (slice_index_or names f 0) t true a b) where
    pub named_then : In (slice_index_or names f 0) b.0.names
    named_then = subst (In (slice_index_or names f 0)) (sym told.steps.makes.names) named_now

    pub loads_now : SaysOf b.0 (slice_index_or names f 0) (LoadItem t)
    loads_now = told.steps.here

    pub slot_now : (cell : ℕ) → cell ≡ t % size → (x : T) × (b.1 ≡ (cell, Some x) ∷ [])
    slot_now cell is = (told.item, told.steps.carries ∙ (λ i. (sym is i, Some told.item) ∷ so.slots i))

    pub next_told : (c : QueueHolder T) (cell : ℕ) → cell ≡ t % size → (x : T) → b.1 ≡ (cell, Some x) ∷ [] → TakesIt size seats (slice_index_or names f 0) t b c → EmptiesOn size seats names k lo (f + 1) granted was (got ++ x ∷ []) m c
    unfolding slot_now
    next_told c cell is x slot takes =
        let n = slice_index_or names f 0 in
        let g = subst (λ z. TakesIt size seats n z b c) t_is takes in
        let e : suc f ≡ f + 1 = omega arith in
        let there : b.1 ≡ (cell, Some told.item) ∷ [] = (slot_now cell is).1 in
        let both : Some told.item ≡ Some x = took b.1 cell cell (Some told.item) (Some x) [] [] there slot in
        let item : told.item ≡ x = (let z = both in cc) in
        let h : EmptiesOn size seats names k lo (suc f) granted was (got ++ told.item ∷ []) m c = empties_next names k lo f granted was got m a apart so n name_here more b c
        (record { item = told.item; steps = subst (λ z. StepsOn size seats n (LoadItem z) [] ((z % size, Some told.item) ∷ a.1) a b) t_is told.steps; put = subst (λ z. item_at (items_put (reverse b.0.seen)) z ≡ Some told.item) t_is told.put }) g in
        subst (λ (v : ℕ × T). EmptiesOn size seats names k lo v.0 granted was (got ++ v.1 ∷ []) m c) (λ i. (e i, item i)) h
