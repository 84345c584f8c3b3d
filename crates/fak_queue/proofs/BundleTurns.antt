-- From the atomic steps of one name of a bundle to what its part of a call leaves.
use Rattle.atomic_table.specs.Table.{rest}
use Rattle.fak_model.specs.declared.queue.Kind.TheVariants as made
use Rattle.fak_model.specs.Shown.{Leaves}
use Rattle.fak_core.specs.declared.queue.phase.Phase.TheVariants.{TurnIn, StoreItem, EndInsert, TurnOut, LoadItem, EndDelete}
use Rattle.fak_core.specs.QueueBlocks.{Posts}
use Rattle.fak_queue.specs.Bursts.{LeavesMarks, TurnsBurst, FillsCellInBurst, TurnsOutBurst, FreesBurst, post_to}
use Rattle.fak_queue.specs.Bundles.{SaysOf, StepsOn, LooksAtIn, FillsIt, LooksAtOut, TakesIt}
use Rattle.fak_queue.proofs.BurstPosts.{post_here, post_else}
use Rattle.fak_queue.proofs.BurstNames.{makes_step}
use Rattle.fak_queue.proofs.Common.{Phases, Each, IsPost, QueueView, QueueHolder, queue_object, mark, ◌≡◌, ℕ, ◌+◌, ◌*◌, ◌/◌, Bool, true, false, ◌==◌, List, [], ◌∷◌, ◌++◌, sym, ap, ◌∙◌, subst, arith, nat_tests, reverse, Option, Some, None, Has, item_at, items_put, Mark, Phase}

each_same : {T : Type 0} {a b : Posts T} → Some (Each a) ≡ Some (Each b) → a ≡ b
each_same e = cc

-- the same step without the slots
erased : {T : Type 0} {size seats : ℕ} {m after : QueueHolder T} {new : List (Mark T)} {then : Phases T} {left : ℕ} {carried : List (ℕ × Option T)} {tells : List (Mark T) → Type 0} → Leaves (queue_object size seats) m new then left carried tells after
    → Leaves (queue_object size seats) (m.0, []) new then left [] tells (after.0, [])
erased l = record { past = l.past; sees = l.sees; after_is = ap (λ (x : QueueHolder _). (x.0, [])) l.after_is; lawful = l.lawful; named = l.named; told = l.told }

seen_now : {T : Type 0} {size seats : ℕ} {m after : QueueHolder T} {new : List (Mark T)} {then : Phases T} {left : ℕ} {carried : List (ℕ × Option T)} {tells : List (Mark T) → Type 0} (l : Leaves (queue_object size seats) m new then left carried tells after) → after.0.seen ≡ new ++ l.past
seen_now l = ap (λ (x : QueueHolder _). x.0.seen) l.after_is

module _ {T : Type 0} {size seats n : ℕ} {q : Phase T} {m after : QueueHolder T} {new : List (Mark T)} {carried : List (ℕ × Option T)} {tells : List (Mark T) → Type 0} (all : Posts T) (says : m.0.phase ≡ Some (Each all)) (p : Phase T) (post : IsPost n p all)
    (l : Leaves (queue_object size seats) m new (Each (post_to n q all)) m.0.left carried tells after) where
  pub steps_on : StepsOn size seats n q new carried m after
  steps_on = record {
    here = (post_to n q all, ap (λ (x : QueueHolder T). x.0.phase) l.after_is, post_here n p q all post);
    others = λ t w ne s. (post_to n q all, ap (λ (x : QueueHolder T). x.0.phase) l.after_is, post_else n q all t w ne (subst (IsPost t w) (each_same (sym s.1 ∙ says)) s.2));
    left = ap (λ (x : QueueHolder T). x.0.left) l.after_is;
    carries = ap (λ (x : QueueHolder T). x.1) l.after_is;
    makes = makes_step (erased l);
  }

-- ---- insertions

module _ {T : Type 0} (size seats n k : ℕ) (x : T) (m after : QueueHolder T) (round cell found : ℕ) (round_is : round ≡ k / size) (told : TurnsBurst size seats n m found after) (s : SaysOf m.0 n (TurnIn k x)) where
  pub looks_in_burst : (b : Bool) → (found == 2 * round) ≡ b → LooksAtIn size seats n k x b m after
  looks_in_burst true e = let same : found ≡ 2 * (k / size) = grind (arith, nat_tests, round_is) in steps_on s.0 s.1 (TurnIn k x) s.2 ((told k x s.0 s.1 s.2).hit same)
  looks_in_burst false e =
      let l = (told k x s.0 s.1 s.2).miss (λ same. absurd (grind (arith, nat_tests, round_is))) in
      record {
        steps = steps_on s.0 s.1 (TurnIn k x) s.2 l;
        earlier = l.told.earlier;
        round = l.told.round;
        untaken = λ h. l.told.untaken (subst (λ z. Has (made.Take l.told.earlier) (reverse z)) (seen_now l) h);
      }

module _ {T : Type 0} (size seats n k cell : ℕ) (x : T) (m mid after : QueueHolder T) (slot : m.1 ≡ (cell, None) ∷ []) (exchanged : mid ≡ (m.0, (cell, Some x) ∷ rest m.1)) (s : SaysOf m.0 n (StoreItem k x)) where
  same_in : mid.0 ≡ m.0
  same_in = ap (λ (y : QueueHolder T). y.0) exchanged

  pub says_mid_in : SaysOf mid.0 n (StoreItem k x)
  says_mid_in = subst (λ (v : QueueView T). SaysOf v n (StoreItem k x)) (sym same_in) s

  pub fills_it : FillsCellInBurst size seats n mid after → FillsIt size seats n k m after
  fills_it told =
      let t = says_mid_in in
      let none : rest mid.1 ≡ [] = ap (λ (y : QueueHolder T). rest y.1) exchanged ∙ ap rest slot in
      let a : StepsOn size seats n (EndInsert k) (mark n (made.Fill k) ∷ []) (rest mid.1) mid after = steps_on t.0 t.1 (StoreItem k x) t.2 (told k x t.0 t.1 t.2) in
      record {
        here = a.here;
        others = λ t w ne o. a.others t w ne (subst (λ (v : QueueView T). SaysOf v t w) (sym same_in) o);
        left = a.left ∙ ap (λ (v : QueueView T). v.left) same_in;
        carries = a.carries ∙ none;
        makes = subst (λ (v : QueueView T). LeavesMarks size seats (mark n (made.Fill k) ∷ []) (v, []) (after.0, [])) same_in a.makes;
      }

-- ---- deletions

module _ {T : Type 0} (size seats n k : ℕ) (m after : QueueHolder T) (round found : ℕ) (round_is : round ≡ k / size) (told : TurnsOutBurst size seats n m found after) (s : SaysOf m.0 n (TurnOut k)) where
  pub looks_out_burst : (b : Bool) → (found == 2 * round + 1) ≡ b → LooksAtOut size seats n k b m after
  looks_out_burst true e =
      let same : found ≡ 2 * (k / size) + 1 = grind (arith, nat_tests, round_is) in
      let h = (told k s.0 s.1 s.2).hit same in
      record {
        item = h.0;
        steps = steps_on s.0 s.1 (TurnOut k) s.2 h.1;
        put = subst (λ z. item_at (items_put (reverse z)) k ≡ Some h.0) (sym (seen_now h.1)) h.1.told;
      }
  looks_out_burst false e =
      let l = (told k s.0 s.1 s.2).miss (λ same. absurd (grind (arith, nat_tests, round_is))) in
      record {
        steps = steps_on s.0 s.1 (TurnOut k) s.2 l;
        unfilled = λ h. l.told.unfilled (subst (λ z. Has (made.Fill k) (reverse z)) (seen_now l) h);
      }

module _ {T : Type 0} (size seats n k cell : ℕ) (x : T) (m mid after : QueueHolder T) (slot : m.1 ≡ (cell, Some x) ∷ []) (exchanged : mid ≡ (m.0, (cell, None) ∷ rest m.1)) (s : SaysOf m.0 n (LoadItem k)) where
  same_out : mid.0 ≡ m.0
  same_out = ap (λ (y : QueueHolder T). y.0) exchanged

  pub says_mid_out : SaysOf mid.0 n (LoadItem k)
  says_mid_out = subst (λ (v : QueueView T). SaysOf v n (LoadItem k)) (sym same_out) s

  pub takes_it : FreesBurst size seats n mid after → TakesIt size seats n k m after
  takes_it told =
      let t = says_mid_out in
      let none : rest mid.1 ≡ [] = ap (λ (y : QueueHolder T). rest y.1) exchanged ∙ ap rest slot in
      let a : StepsOn size seats n (EndDelete k) (mark n (made.Take k) ∷ []) (rest mid.1) mid after = steps_on t.0 t.1 (LoadItem k) t.2 (told k t.0 t.1 t.2) in
      record {
        here = a.here;
        others = λ t w ne o. a.others t w ne (subst (λ (v : QueueView T). SaysOf v t w) (sym same_out) o);
        left = a.left ∙ ap (λ (v : QueueView T). v.left) same_out;
        carries = a.carries ∙ none;
        makes = subst (λ (v : QueueView T). LeavesMarks size seats (mark n (made.Take k) ∷ []) (v, []) (after.0, [])) same_out a.makes;
      }
