-- A bundle fills its cells, one name after another.
use Rattle.std.specs.Prelude.{suc, drop, slice_index_or}
use Rattle.fak_model.specs.declared.queue.Kind.TheVariants as made
use Rattle.fak_model.proofs.Deciding.{same_or_not}
use Rattle.fak_core.specs.declared.queue.phase.Phase.TheVariants.{Idle, TurnIn, StoreItem, EndInsert}
use Rattle.fak_core.specs.QueueBlocks.{AreApart}
use Rattle.fak_queue.specs.Bundles.{SaysOf, StaysIn, LooksAtIn, FillsIt, IsLawful, Filling, FillsOn, IsEarly, fills_at}
use Rattle.fak_queue.proofs.BurstNames.{makes_then}
use Rattle.fak_queue.proofs.BundleLists.{item_in, item_is, first_of, one_number, drop_next, made_none, made_still, made_next}
use Rattle.fak_queue.proofs.Common.{QueueHolder, Phase, item_at, In, ◌≡◌, ◌≢◌, ℕ, ◌+◌, ◌-◌, ◌%◌, ◌<◌, true, false, List, [], ◌∷◌, length, refl, sym, ap, ◌∙◌, subst, inl, inr, arith, Some, None}

-- the item that is kept first
kept_first : {A : Type 0} (kept : List A) (x y : A) (rest : List A) (d : ℕ) → kept ≡ x ∷ rest → d ≡ 0 → item_at kept d ≡ Some y → x ≡ y
kept_first kept x y rest d e z at = let f : item_at (x ∷ rest) 0 ≡ Some y = subst (λ (w : List _ × ℕ). item_at w.0 w.1 ≡ Some y) (λ i. (e i, z i)) at in let g : Some x ≡ Some y = f in cc

kept_next : {A : Type 0} (kept : List A) (x : A) (rest : List A) (d e : ℕ) → kept ≡ x ∷ rest → d ≡ suc e → item_at kept d ≡ item_at rest e
kept_next kept x rest d e is z = λ i. item_at (is i) (z i)

pub fills_none : {T : Type 0} {size seats : ℕ} (names : List ℕ) (k f granted : ℕ) (kept : List T) (m : QueueHolder T) → IsLawful size seats m.0 → Filling names k f f granted kept m.0 → m.1 ≡ [] → FillsOn size seats names k f f granted kept kept m m
fills_none names k f granted kept m law stands slots = record {
  marks = made_none names f (fills_at k) m law;
  stands = stands;
  slots = slots;
  kept_are = let z : 0 ≡ f - f = omega arith in ap (λ d. drop d kept) z;
}

module _ {T : Type 0} {size seats : ℕ} (names : List ℕ) (k lo f granted : ℕ) (was kept : List T) (m a : QueueHolder T) (apart : AreApart names) (so : FillsOn size seats names k lo f granted was kept m a)
    (n : ℕ) (here : item_at names f ≡ Some n) (more : f < granted) (x : T) (rest : List T) (first : kept ≡ x ∷ rest) where
  -- another name is not this one
  far : (i t : ℕ) → item_at names i ≡ Some t → i ≢ f → t ≢ n
  far i t e ne z = ne (one_number names apart i f t e (subst (λ y. item_at names f ≡ Some y) (sym z) here))

  pub waits_here : SaysOf a.0 n (TurnIn (k + f) x)
  waits_here =
      let z : 0 ≡ f - f = omega arith in
      so.stands.waits f n x here (omega arith) more (sym (ap (item_at kept) z) ∙ ap (λ l. item_at l 0) first)

  pub is_named : In n a.0.names
  is_named = subst (In n) (sym so.stands.all_are) (item_in names f n here)

  module _ (b : QueueHolder T) (stays : StaysIn size seats n (k + f) x a b) where
    pub fills_stay : FillsOn size seats names k lo f granted was kept m b
    fills_stay =
        let s = stays.steps in
        let w = so.stands in
        let kept' = so.kept_are in
        record {
          marks = made_still so.marks w.all_are s.left s.makes;
          stands = record {
            all_are = s.makes.names ∙ w.all_are;
            done = λ i t e low. let o = w.order in s.others t Idle (far i t e (λ z. omega (arith, low, z, o.0))) (w.done i t e low);
            full = λ i t e above below. s.others t (EndInsert (k + i)) (far i t e (λ z. omega (arith, below, z))) (w.full i t e above below);
            waits = λ i t y e above below at. elim (same_or_not i f) [
              | inl z ↦ (
                  let same : t ≡ n = (let g : Some t ≡ Some n = sym e ∙ (ap (item_at names) z ∙ here) in cc) in
                  let item : x ≡ y = kept_first kept x y rest (i - f) first (omega (arith, z)) at in
                  subst (λ (v : ℕ × ℕ × T). SaysOf b.0 v.0 (TurnIn (k + v.1) v.2)) (λ j. (sym same j, sym z j, item j)) s.here)
              | inr ne ↦ s.others t (TurnIn (k + i) y) (far i t e ne) (w.waits i t y e above below at)
            ];
            rests = λ i t e above. s.others t Idle (far i t e (λ z. omega (arith, above, z, more))) (w.rests i t e above);
            some = w.some;
            order = w.order;
          };
          slots = s.carries ∙ so.slots;
          kept_are = kept';
        }

    pub is_early : IsEarly size (k + f) b
    is_early = (stays.earlier, stays.round, stays.untaken)

  module _ (b c : QueueHolder T) (looked : LooksAtIn size seats n (k + f) x true a b) (fills : FillsIt size seats n (k + f) b c) where
    others : (t : ℕ) (w : Phase T) → t ≢ n → SaysOf a.0 t w → SaysOf c.0 t w
    others t w ne s = fills.others t w ne (looked.others t w ne s)

    pub fills_next : FillsOn size seats names k lo (suc f) granted was rest m c
    fills_next =
        let w = so.stands in
        let o = w.order in
        let l = ap length first in
        let many = w.some in
        let both = makes_then looked.makes fills.makes in
        record {
          marks = made_next so.marks w.all_are (fills.left ∙ looked.left) apart n (made.Fill (k + f)) here o.0 refl both;
          stands = record {
            all_are = both.names ∙ w.all_are;
            done = λ i t e low. others t Idle (far i t e (λ z. omega (arith, low, z, o.0))) (w.done i t e low);
            full = λ i t e above below. elim (same_or_not i f) [
              | inl z ↦ (
                  let same : t ≡ n = (let g : Some t ≡ Some n = sym e ∙ (ap (item_at names) z ∙ here) in cc) in
                  subst (λ (v : ℕ × ℕ). SaysOf c.0 v.0 (EndInsert (k + v.1))) (λ j. (sym same j, sym z j)) fills.here)
              | inr ne ↦ others t (EndInsert (k + i)) (far i t e ne) (w.full i t e above (omega (arith, below, ne)))
            ];
            waits = λ i t y e above below at.
                let d : i - f ≡ suc (i - suc f) = omega (arith, above) in
                others t (TurnIn (k + i) y) (far i t e (λ z. omega (arith, above, z))) (w.waits i t y e (omega (arith, above)) below (kept_next kept x rest (i - f) (i - suc f) first d ∙ at));
            rests = λ i t e above. others t Idle (far i t e (λ z. omega (arith, above, z, more))) (w.rests i t e above);
            some = omega (arith, l, many);
            order = (omega (arith, o.0), omega (arith, more), o.2);
          };
          slots = fills.carries;
          kept_are =
              let d : suc (f - lo) ≡ suc f - lo = omega (arith, o.0) in
              sym (drop_next was (f - lo) x rest (sym so.kept_are ∙ first)) ∙ ap (λ z. drop z was) d;
        }

-- ---- the loop, at the name of this number

module _ {T : Type 0} {size seats : ℕ} (names : List ℕ) (k lo f granted : ℕ) (was kept : List T) (m a : QueueHolder T) (apart : AreApart names) (so : FillsOn size seats names k lo f granted was kept m a) (more : f < granted) (t : ℕ) (t_is : t ≡ k + f) where
  name_here : item_at names f ≡ Some (slice_index_or names f 0)
  name_here = let o = so.stands.order in item_is names f (omega (arith, o.2, more))

  some_kept : (x : T) × (rest : List T) × (kept ≡ x ∷ rest)
  some_kept = let l = so.stands.some in first_of kept (omega (arith, l, more))

  pub named_now : In (slice_index_or names f 0) a.0.names
  named_now = let h = some_kept in is_named names k lo f granted was kept m a apart so (slice_index_or names f 0) name_here more h.0 h.1 h.2

  pub waits_now : (x : T) (rest : List T) → kept ≡ x ∷ rest → SaysOf a.0 (slice_index_or names f 0) (TurnIn t x)
  waits_now x rest e = subst (λ z. SaysOf a.0 (slice_index_or names f 0) (TurnIn z x)) (sym t_is) (waits_here names k lo f granted was kept m a apart so (slice_index_or names f 0) name_here more x rest e)

  pub waits_so : (x : T) × SaysOf a.0 (slice_index_or names f 0) (TurnIn t x)
  waits_so = let h = some_kept in (h.0, waits_now h.0 h.1 h.2)

  module _ (b : QueueHolder T) (told : (x : T) → SaysOf a.0 (slice_index_or names f 0) (TurnIn t x) → LooksAtIn size seats (slice_index_or names f 0) t x false a b) where
    stays : StaysIn size seats (slice_index_or names f 0) (k + f) some_kept.0 a b
    stays = let h = some_kept in subst (λ z. StaysIn size seats (slice_index_or names f 0) z h.0 a b) t_is (told h.0 (waits_now h.0 h.1 h.2))

    pub stays_told : FillsOn size seats names k lo f granted was kept m b
    stays_told = let h = some_kept in fills_stay names k lo f granted was kept m a apart so (slice_index_or names f 0) name_here more h.0 h.1 h.2 b stays

    pub early_told : IsEarly size (k + f) b
    early_told = let h = some_kept in is_early names k lo f granted was kept m a apart so (slice_index_or names f 0) name_here more h.0 h.1 h.2 b stays

  module _ (b : QueueHolder T) (told : (x : T) → SaysOf a.0 (slice_index_or names f 0) (TurnIn t x) → LooksAtIn size seats (slice_index_or names f 0) t x true a b) (x : T) (rest : List T) (first : kept ≡ x ∷ rest) where
    looked_now : LooksAtIn size seats (slice_index_or names f 0) t x true a b
    looked_now = told x (waits_now x rest first)

    pub named_then : In (slice_index_or names f 0) b.0.names
    named_then = subst (In (slice_index_or names f 0)) (sym looked_now.makes.names) named_now

    pub stores_now : SaysOf b.0 (slice_index_or names f 0) (StoreItem t x)
    stores_now = looked_now.here

    pub slot_now : (cell : ℕ) → cell ≡ t % size → b.1 ≡ (cell, None) ∷ []
    slot_now cell is = looked_now.carries ∙ (λ i. (sym is i, None) ∷ so.slots i)

    pub next_told : (c : QueueHolder T) → FillsIt size seats (slice_index_or names f 0) t b c → FillsOn size seats names k lo (f + 1) granted was rest m c
    next_told c fills =
        let n = slice_index_or names f 0 in
        let l = subst (λ z. LooksAtIn size seats n z x true a b) t_is looked_now in
        let g = subst (λ z. FillsIt size seats n z b c) t_is fills in
        let e : suc f ≡ f + 1 = omega arith in
        subst (λ z. FillsOn size seats names k lo z granted was rest m c) e (fills_next names k lo f granted was kept m a apart so n name_here more x rest first b c l g)
