-- Whatever the steps are, a block of steps of several names of one view keeps what a running object shows.
use Rattle.fak_model.proofs.Common.{All-cons, some, some-injective, some-ne-none, get_elem?, View, IsHistory, AreNamed, In, AreApart, sight, Foreign, Sees, ◌≡◌, ◌≢◌, ℕ, zero, suc, ◌+◌, ◌<◌, ◌≤◌, List, [], ◌∷◌, ◌++◌, set, append_assoc, refl, ap, sym, ◌∙◌, subst, arith, Option, Some, reverse, All, State, Me, Act, stepped, homes_after, carried_after, common_steps, at_set}
use Rattle.fak_model.specs.declared.note.Note.{Note}
use Rattle.fak_model.specs.Shown.{Object, total, IsShown, Leaves}
use Rattle.fak_model.proofs.Reversing.{All-reverse}
use Rattle.fak_model.proofs.RunningViews.{sees_all, sees_nothing, foreign_append}

-- ---- lists

pub total_set : {A : Type 0} (f : A → ℕ) (l : List A) (i : ℕ) (a b : A) → get_elem? l i ≡ some a → total f (set l i b) + f a ≡ total f l + f b
total_set f [] i a b e = absurd (some-ne-none a (sym e))
total_set f (x ∷ l) zero a b e = let same : f x ≡ f a = ap f (some-injective x a e) in omega arith
total_set f (x ∷ l) (suc i) a b e = omega (arith, total_set f l i a b e)

pub total_at : {A : Type 0} (f : A → ℕ) (l : List A) (i : ℕ) (a : A) → get_elem? l i ≡ some a → f a ≤ total f l
total_at f [] i a e = absurd (some-ne-none a (sym e))
total_at f (x ∷ l) zero a e = let same : f x ≡ f a = ap f (some-injective x a e) in omega arith
total_at f (x ∷ l) (suc i) a e = omega (arith, total_at f l i a e)

-- what holds at the changed place and at all others holds at all
pub each_set : {A : Type 0} (l : List A) (i : ℕ) (b : A) (F : ℕ → A → Type 0) → F i b → ((j : ℕ) (u : A) → j ≢ i → get_elem? l j ≡ some u → F j u)
    → (j : ℕ) (u : A) → get_elem? (set l i b) j ≡ some u → F j u
each_set {A} l i b F here rest j u e = grind (arith, common_steps, some, at_set)

pub Some_injective : {A : Type 0} {a b : A} → Some a ≡ Some b → a ≡ b
Some_injective e = cc

-- ---- marks of these names

-- all marks belong to these names
abbrev pub AreAmong : {M : Type 0} → (M → ℕ) → List ℕ → List M → Type 0
AreAmong seat_of names [] = Unit {0}
AreAmong seat_of names (m ∷ h) = In (seat_of m) names × AreAmong seat_of names h

pub among_append : {M : Type 0} (seat_of : M → ℕ) (names : List ℕ) (f g : List M) → AreAmong seat_of names f → AreAmong seat_of names g → AreAmong seat_of names (f ++ g)
among_append seat_of names [] g a b = b
among_append seat_of names (m ∷ f) g a b = (a.0, among_append seat_of names f g a.1 b)

-- such marks are foreign to other names
foreign_among : {M : Type 0} (seat_of : M → ℕ) (names others : List ℕ) (new : List M) → ((n : ℕ) → In n others → In n names → ⊥) → AreAmong seat_of names new → Foreign seat_of others new
foreign_among seat_of names others [] apart own = tt
foreign_among seat_of names others (m ∷ new) apart own = ((λ i. apart (seat_of m) i own.0), foreign_among seat_of names others new apart own.1)

-- so other names still see the past
sees_others : {M : Type 0} (seat_of : M → ℕ) (names : List ℕ) (seen past : List M) (own : List ℕ) (new : List M) → ((n : ℕ) → In n names → In n own → ⊥) → AreAmong seat_of own new → Sees seat_of names seen past → Sees seat_of names seen (new ++ past)
sees_others seat_of names seen past own new apart among s = record {
  between = new ++ s.between;
  is = ap (λ h. new ++ h) s.is ∙ sym (append_assoc new s.between seen);
  foreign = foreign_append seat_of names new s.between (foreign_among seat_of own names new apart among) s.foreign;
}

named_all : {M : Type 0} (seat_of : M → ℕ) (seats : ℕ) (names : List ℕ) (new past : List M) → ((n : ℕ) → In n names → n < seats) → AreAmong seat_of names new → All (λ (m : M). seat_of m < seats) past → All (λ (m : M). seat_of m < seats) (new ++ past)
named_all seat_of seats names [] past low own all = all
named_all {M} seat_of seats names (m ∷ new) past low own all = All-cons (λ (w : M). seat_of w < seats) m (new ++ past) (low (seat_of m) own.0) (named_all seat_of seats names new past low own.1 all)

-- ---- the block

-- reached states have lawful histories
abbrev pub AreLawful : {M W C P S H : Type 0} → Object M W C P S H → Type 0
AreLawful {M} {W} {C} {P} {S} o = (c : S) → o.IsReached c → IsHistory o.rules (reverse (o.past_of c))

-- the seats of these names take the object from one core state to another, leave these marks, newest first, and are at
-- this phase afterwards
pub record BlockAdvances {M W C P S H : Type 0} (o : Object M W C P S H) (before : S) (names : List ℕ) (after : S) (new : List M) (phase : P) : Type 0 where
  pub reached : o.IsReached after
  pub past : o.past_of after ≡ new ++ o.past_of before
  pub own : AreAmong o.rules.seat_of names new
  pub stands : (n : ℕ) → In n names → o.StandsAt after n phase
  pub others : (k : ℕ) (p : P) → (In k names → ⊥) → o.StandsAt before k p → o.StandsAt after k p

-- what each name of this view has noted
abbrev pub AreNotedBy : {M P : Type 0} → (ℕ → List Note) → View M P → Type 0
AreNotedBy notes v = (n : ℕ) → In n v.names → (l : List Note) → v.noted ≡ Some l → notes n ≡ l

-- the notes of these names are those that a view knows, and the notes of other names are as they were
pub record AddsNotes (names : List ℕ) (before notes : ℕ → List Note) (noted : Option (List Note)) : Type 0 where
  pub own : (n : ℕ) → In n names → (l : List Note) → noted ≡ Some l → notes n ≡ l
  pub others : (k : ℕ) → (In k names → ⊥) → notes k ≡ before k

module _ {M W C P S H : Type 0} (o : Object M W C P S H) (s : State H (View M P)) (r : IsShown o s) (id : ℕ) (m : Me H (View M P)) (at : get_elem? s.views id ≡ some m.0) where
  -- the marks after the block have names of seats, too
  pub named_after : (c : S) (new : List M) (phase : P) → BlockAdvances o r.core m.0.names c new phase → AreNamed o.rules o.seats (o.past_of c)
  named_after c new phase step = subst (AreNamed o.rules o.seats) (sym step.past) (named_all o.rules.seat_of o.seats m.0.names new (o.past_of r.core) (r.below id m.0 at) step.own r.named)

  -- the seats take the steps of the block
  pub block_goes : (c : S) (new : List M) (phase : P) → BlockAdvances o r.core m.0.names c new phase → (left : ℕ) → o.drawn_of c + left ≤ o.drawn_of r.core + m.0.left
      → (notes : ℕ → List Note) (noted : Option (List Note)) → AddsNotes m.0.names r.notes notes noted
      → (t : State H (View M P)) → o.Encodes c notes t.words t.homes → t.views ≡ set s.views id (sight m.0.names noted (new ++ o.past_of r.core) phase left) → IsShown o t
  block_goes c new phase step left few notes noted adds t encoded views =
      let w = sight m.0.names noted (new ++ o.past_of r.core) phase left in
      let P' : List (View M P) → (ℕ → View M P → Type 0) → Type 0 = λ vs F. (j : ℕ) (u : View M P) → get_elem? vs j ≡ some u → F j u in
      let each : (F : ℕ → View M P → Type 0) → F id w → ((j : ℕ) (u : View M P) → j ≢ id → get_elem? s.views j ≡ some u → F j u) → P' t.views F =
      λ F mine rest. subst (λ (vs : List (View M P)). P' vs F) (sym views) (each_set s.views id w F mine rest) in
      let other : (j : ℕ) (u : View M P) → j ≢ id → get_elem? s.views j ≡ some u → (n : ℕ) → In n u.names → In n m.0.names → ⊥ = λ j u ne e n i k. ne (r.apart j id u m.0 e at n i k) in
      let Seen : View M P → Type 0 = λ u. Sees o.rules.seat_of u.names u.seen (o.past_of c) in
      let Stands : View M P → Type 0 = λ u. (k : ℕ) → In k u.names → (p : P) → u.phase ≡ Some p → o.StandsAt c k p in
      record {
        core = c;
        notes = notes;
        reached = step.reached;
        encoded = encoded;
        named = named_after c new phase step;
        sees = each (λ _ u. Seen u)
            (subst (Sees o.rules.seat_of m.0.names (new ++ o.past_of r.core)) (sym step.past) (sees_all o.rules.seat_of m.0.names (new ++ o.past_of r.core)))
            (λ j u ne e. subst (Sees o.rules.seat_of u.names u.seen) (sym step.past) (sees_others o.rules.seat_of u.names u.seen (o.past_of r.core) m.0.names new (other j u ne e) step.own (r.sees j u e)));
        told = each (λ _ u. Sees o.rules.seat_of u.told_names u.told u.seen) (sees_nothing o.rules.seat_of (new ++ o.past_of r.core)) (λ j u _ e. r.told j u e);
        below = each (λ _ u. (k : ℕ) → In k u.names → k < o.seats) (r.below id m.0 at) (λ j u _ e. r.below j u e);
        stands = each (λ _ u. Stands u)
            (λ k i p e. subst (o.StandsAt c k) (Some_injective e) (step.stands k i))
            (λ j u ne e k i p is. step.others k p (λ q. other j u ne e k i q) (r.stands j u e k i p is));
        once = each (λ _ u. AreApart u.names) (r.once id m.0 at) (λ j u _ e. r.once j u e);
        noted = each (λ _ u. AreNotedBy notes u) adds.own (λ j u ne e k i l is. adds.others k (λ q. other j u ne e k i q) ∙ r.noted j u e k i l is);
        apart = λ i j x y ex ey k isx isy.
            let same_as : (i : ℕ) (x : View M P) → get_elem? t.views i ≡ some x → In k x.names → (v : View M P) × (get_elem? s.views i ≡ some v) × In k v.names =
            each (λ i x. In k x.names → (v : View M P) × (get_elem? s.views i ≡ some v) × In k v.names) (λ is. (m.0, at, is)) (λ j u _ e is. (u, e, is)) in
            let a = same_as i x ex isx in
            let b = same_as j y ey isy in
            r.apart i j a.0 b.0 a.1 b.1 k a.2 b.2;
        few = subst (λ (vs : List (View M P)). o.drawn_of c + total (λ (v : View M P). v.left) vs ≤ o.tickets) (sym views)
            (omega (arith, total_set (λ (v : View M P). v.left) s.views id m.0 w at, r.few, few));
      }

  -- the notes stay as they are
  no_notes : AddsNotes m.0.names r.notes r.notes m.0.noted
  no_notes = record { own = r.noted id m.0 at; others = λ k out. refl }

  -- a block of steps that one change of a word performs, with what that change shows
  pub block_steps : AreLawful o → (c : S) (new : List M) (phase : P) → BlockAdvances o r.core m.0.names c new phase → (i w : ℕ) (a : Act H) → o.Encodes c r.notes (set s.words i w) (homes_after s.homes m.1 a)
      → (left : ℕ) → o.drawn_of c + left ≤ o.drawn_of r.core + m.0.left → (tells : List M → Type 0) → tells (o.past_of r.core)
      → let v = sight m.0.names m.0.noted (new ++ o.past_of r.core) phase left in
      IsShown o (stepped s i w id m.1 v a) × Leaves o m new phase left (carried_after m.1 a) tells (v, carried_after m.1 a)
  block_steps law c new phase step i w a encoded left few tells told =
      let v = sight m.0.names m.0.noted (new ++ o.past_of r.core) phase left in
      let t : State H (View M P) = stepped s i w id m.1 v a in (
        block_goes c new phase step left few r.notes m.0.noted no_notes t encoded refl,
        record {
          past = o.past_of r.core;
          sees = r.sees id m.0 at;
          after_is = refl;
          lawful = subst (λ (h : List M). IsHistory o.rules (reverse h)) step.past (law c step.reached);
          named = subst (λ (h : List M). AreNamed o.rules o.seats (reverse h)) step.past (All-reverse (λ (x : M). o.rules.seat_of x < o.seats) (o.past_of c) (named_after c new phase step));
          told = told;
        },
      )
