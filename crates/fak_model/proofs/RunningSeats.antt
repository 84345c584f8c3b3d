-- How a running object begins, and how its seats are split off, joined, and shown what they saw together.
use Rattle.fak_model.proofs.Common.{some, some-injective, some-ne-none, get_elem?, View, In, AreApart, ◌≡◌, ◌≢◌, ◌⊎◌, ℕ, zero, suc, ◌+◌, ◌<◌, ◌≤◌, List, [], ◌∷◌, ◌++◌, length, set, map, refl, ap, sym, ◌∙◌, subst, arith, inl, inr, ⊎_elim, Some, None, Me, keeps, opening, Allows, Splits, Joins, Sees, opened, first_name, later_names, share_of, dealt, kept, joined, spent, settled, common_steps, div-le_self, set_else}
use Rattle.fak_model.specs.Shown.{Object, total, IsShown, Hears}
use Rattle.fak_model.proofs.Seats.{in_either}
use Rattle.fak_model.proofs.RunningViews.{sees_all, sees_nothing, sees_fewer, first_in, later_in, in_names_from, apart_from, apart_first, apart_later, apart_append, names_apart, sees_lawful, sees_named, Compared, compared}
use Rattle.fak_model.proofs.RunningBlocks.{total_set, total_at, each_set, AreLawful, AreNotedBy, Some_injective}
use Rattle.fak_model.proofs.RunningSteps.{set_found}

-- ---- lists

-- an item of a list with one more at its end: one of the list, or the last
pub at_end : {A : Type 0} (l : List A) (a b : A) (j : ℕ) → get_elem? (l ++ a ∷ []) j ≡ some b → (get_elem? l j ≡ some b) ⊎ ((j ≡ length l) × (a ≡ b))
at_end [] a b zero e = inr (refl, some-injective a b e)
at_end [] a b (suc j) e = absurd (some-ne-none b (sym e))
at_end (x ∷ l) a b zero e = inl e
at_end (x ∷ l) a b (suc j) e = ⊎_elim (λ f. inl f) (λ f. inr (ap suc f.0, f.1)) (at_end l a b j e)

total_append : {A : Type 0} (f : A → ℕ) (l k : List A) → total f (l ++ k) ≡ total f l + total f k
total_append f [] k = omega arith
total_append f (x ∷ l) k = omega (arith, total_append f l k)

-- ---- opening

module _ {M W C P S H : Type 0} (o : Object M W C P S H) (resting : P) (left : ℕ) where
  -- the table at the opening shows the core state at the opening
  pub starts : (c : S) → o.IsReached c → o.past_of c ≡ [] → ((n : ℕ) → n < o.seats → o.StandsAt c n resting) → (ws : List ℕ) (xs : List H) → o.Encodes c (λ n. []) ws (map some xs)
      → o.drawn_of c + left ≤ o.tickets → IsShown o (opening ws xs (opened resting o.seats left))
  starts c reached none rest ws xs encoded few = grind (arith, common_steps, opened, some, sees_all, sees_nothing, in_names_from, apart_from, some-injective, some-ne-none, Some_injective)

-- ---- the place of a name, before and after

-- a name of view i was in view a before id was split: either a is i, or a is id, which keeps the later names and hands
-- the first one to `end`
abbrev SplitFrom : Type 0 → Type 0 → ℕ → ℕ → ℕ → ℕ → Type 0
SplitFrom First Later i a id end = ((a ≡ i) × (i ≢ id)) ⊎ ((a ≡ id) × (((i ≡ id) × Later) ⊎ ((i ≡ end) × First)))

split_place : (First Later : Type 0) → (First → Later → ⊥) → (i j a b id end : ℕ) → a ≡ b → SplitFrom First Later i a id end → SplitFrom First Later j b id end → i ≡ j
split_place First Later apart i j a b id end same u v = grind (arith, common_steps)

-- a name of view i was in view a before `other` was joined to id: either a is i, or i is id and a is `other`
abbrev JoinFrom : ℕ → ℕ → ℕ → ℕ → Type 0
JoinFrom i a id other = ((a ≡ i) × (i ≢ other)) ⊎ ((i ≡ id) × (a ≡ other))

join_place : (i j a b id other : ℕ) → a ≡ b → JoinFrom i a id other → JoinFrom j b id other → i ≡ j
join_place i j a b id other same v e = grind (arith, common_steps)

-- ---- a split

module _ {M W C P S H : Type 0} (o : Object M W C P S H) (id : ℕ) (v : View M P) where
  -- a seat for the first name is split off
  pub splits : Splits (IsShown o) id v (kept v) (dealt v)
  splits s r at =
      let views : List (View M P) = set s.views id (kept v) ++ dealt v ∷ [] in
      let C' : ℕ → View M P → Type 0 = λ j u. ((get_elem? s.views j ≡ some u) × (j ≢ id)) ⊎ (((j ≡ id) × (kept v ≡ u)) ⊎ ((j ≡ length (set s.views id (kept v))) × (dealt v ≡ u))) in
      let which : (j : ℕ) (u : View M P) → get_elem? views j ≡ some u → C' j u =
      λ j u e. elim (at_end (set s.views id (kept v)) (dealt v) u j e) [ inl old ↦ each_set s.views id (kept v) C' (inr (inl (refl, refl))) (λ i x ne f. inl (f, ne)) j u old | inr new ↦ inr (inr new) ] in
      let each : (F : View M P → Type 0) → ((j : ℕ) (u : View M P) → get_elem? s.views j ≡ some u → F u) → F (kept v) → F (dealt v) → (j : ℕ) (u : View M P) → get_elem? views j ≡ some u → F u =
      λ F old left right j u e. elim (which j u e) [ inl x ↦ old j u x.0 | inr (inl x) ↦ subst F x.1 left | inr (inr x) ↦ subst F x.1 right ] in
      let Seen : View M P → Type 0 = λ u. Sees o.rules.seat_of u.names u.seen (o.past_of r.core) in
      let Below : View M P → Type 0 = λ u. (n : ℕ) → In n u.names → n < o.seats in
      let Stands : View M P → Type 0 = λ u. (n : ℕ) → In n u.names → (p : P) → u.phase ≡ Some p → o.StandsAt r.core n p in
      -- the place where a name was
      let From : ℕ → ℕ → Type 0 = λ j n. (i : ℕ) × (x : View M P) × (get_elem? s.views i ≡ some x) × In n x.names
      × SplitFrom (In n (first_name v.names)) (In n (later_names v.names)) j i id (length (set s.views id (kept v))) in
      let from : (j : ℕ) (u : View M P) (n : ℕ) → C' j u → In n u.names → From j n =
      λ j u n c is. elim c [
        | inl x ↦ (j, u, x.0, is, inl (refl, x.1))
        | inr (inl x) ↦ (let is' : In n (later_names v.names) = subst (λ (z : View M P). In n z.names) (sym x.1) is in (id, v, at, later_in n v.names is', inr (refl, inl (x.0, is'))))
        | inr (inr x) ↦ (let is' : In n (first_name v.names) = subst (λ (z : View M P). In n z.names) (sym x.1) is in (id, v, at, first_in n v.names is', inr (refl, inr (x.0, is'))))
      ] in
      let Left : View M P → ℕ = λ (u : View M P). u.left in
      let share : share_of v ≤ v.left = div-le_self v.left (length v.names) in
      record {
        core = r.core;
        notes = r.notes;
        reached = r.reached;
        encoded = r.encoded;
        named = r.named;
        sees = each Seen r.sees (sees_fewer o.rules.seat_of (later_names v.names) v.names v.seen (o.past_of r.core) (λ n. later_in n v.names) (r.sees id v at))
            (sees_fewer o.rules.seat_of (first_name v.names) v.names v.seen (o.past_of r.core) (λ n. first_in n v.names) (r.sees id v at));
        told = each (λ u. Sees o.rules.seat_of u.told_names u.told u.seen) r.told (sees_nothing o.rules.seat_of v.seen) (sees_nothing o.rules.seat_of v.seen);
        below = each Below r.below (λ n i. r.below id v at n (later_in n v.names i)) (λ n i. r.below id v at n (first_in n v.names i));
        stands = each Stands r.stands (λ n i. r.stands id v at n (later_in n v.names i)) (λ n i. r.stands id v at n (first_in n v.names i));
        once = each (λ u. AreApart u.names) r.once (apart_later v.names (r.once id v at)) (apart_first v.names);
        noted = each (AreNotedBy r.notes) r.noted (λ n i. r.noted id v at n (later_in n v.names i)) (λ n i. r.noted id v at n (first_in n v.names i));
        apart = λ i j x y ex ey n isx isy.
            let a = from i x n (which i x ex) isx in
            let b = from j y n (which j y ey) isy in
            let same : a.0 ≡ b.0 = r.apart a.0 b.0 a.1 b.1 a.2 b.2 n a.3 b.3 in
            split_place (In n (first_name v.names)) (In n (later_names v.names)) (names_apart v.names (r.once id v at) n) i j a.0 b.0 id (length (set s.views id (kept v))) same a.4 b.4;
        few = omega (arith, total_append Left (set s.views id (kept v)) (dealt v ∷ []), total_set Left s.views id v (kept v) at, total_at Left s.views id v at, share, r.few);
      }

-- ---- a join

module _ {M W C P S H : Type 0} (o : Object M W C P S H) (id : ℕ) (v : View M P) (other : ℕ) (w : View M P) where
  -- two seats at the same phase are joined
  pub joins : w.phase ≡ v.phase → Joins (IsShown o) id v other w (joined v w) spent
  joins phases s r at ne there =
      let both : View M P = joined v w in
      let views : List (View M P) = set (set s.views id both) other spent in
      let there' : get_elem? s.views other ≡ some w = sym (set_else s.views id other both ne) ∙ there in
      let c : Compared o.rules.seat_of v.names w.names v.seen w.seen (o.past_of r.core) = compared o.rules.seat_of v.names w.names v.seen w.seen (o.past_of r.core) (r.sees id v at) (r.sees other w there') in
      let C' : ℕ → View M P → Type 0 = λ j u. (spent ≡ u) ⊎ (((j ≡ id) × (both ≡ u)) ⊎ ((j ≢ other) × (get_elem? s.views j ≡ some u))) in
      let which : (j : ℕ) (u : View M P) → get_elem? views j ≡ some u → C' j u =
      each_set (set s.views id both) other spent C' (inl refl)
      (λ j u apart e. each_set s.views id both (λ i x. i ≢ other → C' i x) (λ _. inr (inl (refl, refl))) (λ i x _ f n. inr (inr (n, f))) j u e apart) in
      let each : (F : View M P → Type 0) → F spent → F both → ((j : ℕ) (u : View M P) → get_elem? s.views j ≡ some u → F u) → (j : ℕ) (u : View M P) → get_elem? views j ≡ some u → F u =
      λ F a b rest j u e. elim (which j u e) [ inl x ↦ subst F x a | inr (inl x) ↦ subst F x.1 b | inr (inr x) ↦ rest j u x.1 ] in
      let From : ℕ → ℕ → Type 0 = λ j n. (i : ℕ) × (x : View M P) × (get_elem? s.views i ≡ some x) × In n x.names × JoinFrom j i id other in
      let from : (j : ℕ) (u : View M P) (n : ℕ) → C' j u → In n u.names → From j n =
      λ j u n k is. elim k [
        | inl x ↦ absurd (subst (λ (z : View M P). In n z.names) (sym x) is)
        | inr (inl x) ↦ elim (in_either n v.names w.names (subst (λ (z : View M P). In n z.names) (sym x.1) is)) [
          | inl left ↦ (id, v, at, left, inl (sym x.0, λ e. ne (sym e ∙ x.0)))
          | inr right ↦ (other, w, there', right, inr (x.0, refl))
        ]
        | inr (inr x) ↦ (j, u, x.1, is, inl (refl, x.0))
      ] in
      let Left : View M P → ℕ = λ (u : View M P). u.left in
      record {
        core = r.core;
        notes = r.notes;
        reached = r.reached;
        encoded = r.encoded;
        named = r.named;
        sees = each (λ u. Sees o.rules.seat_of u.names u.seen (o.past_of r.core)) (sees_nothing o.rules.seat_of (o.past_of r.core)) c.both r.sees;
        told = each (λ u. Sees o.rules.seat_of u.told_names u.told u.seen) (sees_nothing o.rules.seat_of []) c.less r.told;
        below = each (λ u. (n : ℕ) → In n u.names → n < o.seats) (λ n i. absurd i)
            (λ n i. elim (in_either n v.names w.names i) [ inl left ↦ r.below id v at n left | inr right ↦ r.below other w there' n right ]) r.below;
        stands = each (λ u. (n : ℕ) → In n u.names → (p : P) → u.phase ≡ Some p → o.StandsAt r.core n p) (λ n i. absurd i)
            (λ n i p e. elim (in_either n v.names w.names i) [ inl left ↦ r.stands id v at n left p e | inr right ↦ r.stands other w there' n right p (phases ∙ e) ]) r.stands;
        once = each (λ u. AreApart u.names) tt (apart_append v.names w.names (r.once id v at) (r.once other w there') (λ n i j. ne (r.apart other id w v there' at n j i))) r.once;
        noted = each (AreNotedBy r.notes) (λ n i. absurd i) (λ n i l e. absurd (let none : None ≡ Some l = e in cc)) r.noted;
        apart = λ i j x y ex ey n isx isy.
            let a = from i x n (which i x ex) isx in
            let b = from j y n (which j y ey) isy in
            let same : a.0 ≡ b.0 = r.apart a.0 b.0 a.1 b.1 a.2 b.2 n a.3 b.3 in
            join_place i j a.0 b.0 id other same a.4 b.4;
        few = omega (arith, total_set Left (set s.views id both) other w spent there, total_set Left s.views id v both at, r.few);
      }

-- ---- the load after a join

module _ {M W C P S H : Type 0} (o : Object M W C P S H) (law : AreLawful o) where
  -- it shows what the join compared
  pub hears : (slots id : ℕ) (m : Me H (View M P)) (i : ℕ) → Allows (IsShown o) slots id m i (λ x. x) (λ _. Hears o m)
  hears slots id m i s r wide at small =
      let u : View M P = settled m.0 in
      let each : (F : ℕ → View M P → Type 0) → F id u → ((j : ℕ) (x : View M P) → get_elem? s.views j ≡ some x → F j x) → (j : ℕ) (x : View M P) → get_elem? (set s.views id u) j ≡ some x → F j x =
      λ F mine rest. each_set s.views id u F mine (λ j x _ e. rest j x e) in
      let was : (j : ℕ) (x : View M P) → get_elem? (set s.views id u) j ≡ some x → (y : View M P) × (get_elem? s.views j ≡ some y) × (y.names ≡ x.names) =
      each (λ j x. (y : View M P) × (get_elem? s.views j ≡ some y) × (y.names ≡ x.names)) (m.0, at, refl) (λ j x e. (x, e, refl)) in
      let Left : View M P → ℕ = λ (x : View M P). x.left in
      let seen = r.sees id m.0 at in (
        u,
        keeps,
        tt,
        record {
          core = r.core;
          notes = r.notes;
          reached = r.reached;
          encoded = subst (λ (ws : List ℕ). o.Encodes r.core r.notes ws s.homes) (sym (set_found s.words i)) r.encoded;
          named = r.named;
          sees = each (λ _ x. Sees o.rules.seat_of x.names x.seen (o.past_of r.core)) seen r.sees;
          told = each (λ _ x. Sees o.rules.seat_of x.told_names x.told x.seen) (sees_nothing o.rules.seat_of m.0.seen) r.told;
          below = each (λ _ x. (n : ℕ) → In n x.names → n < o.seats) (r.below id m.0 at) r.below;
          stands = each (λ _ x. (n : ℕ) → In n x.names → (p : P) → x.phase ≡ Some p → o.StandsAt r.core n p) (r.stands id m.0 at) r.stands;
          once = each (λ _ x. AreApart x.names) (r.once id m.0 at) r.once;
          noted = each (λ _ x. AreNotedBy r.notes x) (r.noted id m.0 at) r.noted;
          apart = λ j k x y ex ey n isx isy.
              let a = was j x ex in
              let b = was k y ey in
              r.apart j k a.0 b.0 a.1 b.1 n (subst (In n) (sym a.2) isx) (subst (In n) (sym b.2) isy);
          few = omega (arith, total_set Left s.views id m.0 u at, r.few);
        },
        record { after_is = refl; told = r.told id m.0 at; lawful = sees_lawful o.rules m.0.names m.0.seen (o.past_of r.core) seen (law r.core r.reached); named = sees_named o.rules o.seats m.0.names m.0.seen (o.past_of r.core) seen r.named },
      )
