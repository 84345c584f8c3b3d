-- What views know after a step of their own, after a step of another view, and after a join.
use Rattle.fak_model.proofs.Common.{nat_tests, All-head, All-tail, Rules, IsHistory, AreNamed, Begins, In, AreApart, IsWhole, longer_of, ◌≡◌, ℕ, zero, suc, ◌+◌, ◌<◌, ◌≤◌, true, false, Bool, cond, nat_lt, List, [], ◌∷◌, ◌++◌, length, length-append, refl, ap, sym, ◌∙◌, subst, arith, inl, inr, reverse, All, Foreign, Sees, names_from, first_name, later_names, shorter_of, common_steps}
use Rattle.std.proofs.lemmas.List.{append-nil, reverse-append}
use Rattle.fak_model.proofs.Seats.{in_either, seen_lawful}
use Rattle.fak_model.proofs.Reversing.{All-reverse}

-- ---- marks of others

module _ {M : Type 0} (seat_of : M → ℕ) where
  pub foreign_append : (names : List ℕ) (f g : List M) → Foreign seat_of names f → Foreign seat_of names g → Foreign seat_of names (f ++ g)
  foreign_append names [] g a b = b
  foreign_append names (m ∷ f) g a b = (a.0, foreign_append names f g a.1 b)

  pub foreign_left : (names : List ℕ) (f g : List M) → Foreign seat_of names (f ++ g) → Foreign seat_of names f
  foreign_left names [] g a = tt
  foreign_left names (m ∷ f) g a = (a.0, foreign_left names f g a.1)

  pub foreign_right : (names : List ℕ) (f g : List M) → Foreign seat_of names (f ++ g) → Foreign seat_of names g
  foreign_right names [] g a = a
  foreign_right names (m ∷ f) g a = foreign_right names f g a.1

  -- marks that are foreign to names are foreign to fewer of them
  pub foreign_fewer : (few names : List ℕ) (h : List M) → ((n : ℕ) → In n few → In n names) → Foreign seat_of names h → Foreign seat_of few h
  foreign_fewer few names [] among a = tt
  foreign_fewer few names (m ∷ h) among a = ((λ i. a.0 (among (seat_of m) i)), foreign_fewer few names h among a.1)

  pub foreign_both : (a b : List ℕ) (h : List M) → Foreign seat_of a h → Foreign seat_of b h → Foreign seat_of (a ++ b) h
  foreign_both a b [] f g = tt
  foreign_both a b (m ∷ h) f g = ((λ i. elim (in_either (seat_of m) a b i) [ inl x ↦ f.0 x | inr x ↦ g.0 x ]), foreign_both a b h f.1 g.1)

  -- ---- a step

  pub sees_all : (names : List ℕ) (past : List M) → Sees seat_of names past past
  sees_all names past = record { between = []; is = refl; foreign = tt }

  foreign_none : (h : List M) → Foreign seat_of [] h
  foreign_none [] = tt
  foreign_none (m ∷ h) = ((λ i. i), foreign_none h)

  pub sees_nothing : (past : List M) → Sees seat_of [] [] past
  sees_nothing past = record { between = past; is = sym (append-nil past); foreign = foreign_none past }

  pub sees_fewer : (few names : List ℕ) (seen past : List M) → ((n : ℕ) → In n few → In n names) → Sees seat_of names seen past → Sees seat_of few seen past
  sees_fewer few names seen past among s = record { between = s.between; is = s.is; foreign = foreign_fewer few names s.between among s.foreign }

-- ---- histories, oldest mark first

-- what was seen is a prefix of the history
pub sees_begins : {M : Type 0} (seat_of : M → ℕ) (names : List ℕ) (seen past : List M) → Sees seat_of names seen past → Begins (reverse seen) (reverse past)
sees_begins seat_of names seen past s = (reverse s.between, sym (ap reverse s.is ∙ reverse-append s.between seen))

pub sees_lawful : {M W C : Type 0} (rules : Rules M W C) (names : List ℕ) (seen past : List M) → Sees rules.seat_of names seen past → IsHistory rules (reverse past) → IsHistory rules (reverse seen)
sees_lawful rules names seen past s law = seen_lawful rules (reverse seen) (reverse past) (sees_begins rules.seat_of names seen past s) law

-- what holds for all marks holds for those that were seen
pub all_end : {A : Type 0} (F : A → Type 0) (l k : List A) → All F (l ++ k) → All F k
all_end F [] k all = all
all_end F (x ∷ l) k all = all_end F l k (All-tail F x (l ++ k) all)

pub sees_named : {M W C : Type 0} (rules : Rules M W C) (seats : ℕ) (names : List ℕ) (seen past : List M) → Sees rules.seat_of names seen past → AreNamed rules seats past → AreNamed rules seats (reverse seen)
sees_named {M} rules seats names seen past s named =
    let Named : M → Type 0 = λ (m : M). rules.seat_of m < seats in
    All-reverse Named seen (all_end Named s.between seen (subst (All Named) s.is named))

-- ---- a whole tally

-- if the names are those of all seats, the whole past was seen
pub sees_whole : {M W C : Type 0} (rules : Rules M W C) (seats : ℕ) (names : List ℕ) (seen past : List M) → IsWhole seats names → AreNamed rules seats past → Sees rules.seat_of names seen past → past ≡ seen
sees_whole {M} rules seats names seen past whole named s = s.is ∙ nobody s.between (subst (AreNamed rules seats) s.is named) s.foreign
  where
    nobody : (h : List M) → AreNamed rules seats (h ++ seen) → Foreign rules.seat_of names h → h ++ seen ≡ seen
    nobody [] all f = refl
    nobody (m ∷ h) all f = absurd (f.0 (whole (rules.seat_of m) (All-head (λ (w : M). rules.seat_of w < seats) m (h ++ seen) all)))

-- ---- a join

-- if two lists end one list, the shorter of them ends the longer
pub shorter_end : {A : Type 0} (p q a b : List A) → p ++ a ≡ q ++ b → length a ≤ length b → (r : List A) × (b ≡ r ++ a) × (p ≡ q ++ r)
shorter_end [] [] a b e le = ([], sym e, refl)
shorter_end [] (y ∷ q) a b e le = absurd (omega (arith, ap length e, length-append (y ∷ q) b))
shorter_end (x ∷ p) [] a b e le = (x ∷ p, sym e, refl)
shorter_end (x ∷ p) (y ∷ q) a b e le =
    let rest = shorter_end p q a b (cc e) le in
    let heads : x ≡ y = cc e in
    (rest.0, rest.1, cc (heads, rest.2))

-- both names see the past by the longer of the two histories that they saw; it continues the shorter
pub record Compared {M : Type 0} (seat_of : M → ℕ) (a b : List ℕ) (s t past : List M) : Type 0 where
  pub both : Sees seat_of (a ++ b) (longer_of s t) past
  pub less : Sees seat_of (cond (nat_lt (length s) (length t)) a b) (shorter_of s t) (longer_of s t)

pub compared : {M : Type 0} (seat_of : M → ℕ) (a b : List ℕ) (s t past : List M) → Sees seat_of a s past → Sees seat_of b t past → Compared seat_of a b s t past
compared {M} seat_of a b s t past p q =
    let r = by (nat_lt (length s) (length t)) refl in
    record { both = r.0; less = r.1 }
  where
    by : (c : Bool) → nat_lt (length s) (length t) ≡ c → Sees seat_of (a ++ b) (cond c t s) past × Sees seat_of (cond c a b) (cond c s t) (cond c t s)
    by true e =
        let le : length s ≤ length t = grind (arith, nat_tests) in
        let r = shorter_end p.between q.between s t (sym p.is ∙ q.is) le in
        let f : Foreign seat_of a (q.between ++ r.0) = subst (Foreign seat_of a) r.2 p.foreign in (
          record { between = q.between; is = q.is; foreign = foreign_both seat_of a b q.between (foreign_left seat_of a q.between r.0 f) q.foreign },
          record { between = r.0; is = r.1; foreign = foreign_right seat_of a q.between r.0 f },
        )
    by false e =
        let le : length t ≤ length s = grind (arith, nat_tests) in
        let r = shorter_end q.between p.between t s (sym q.is ∙ p.is) le in
        let f : Foreign seat_of b (p.between ++ r.0) = subst (Foreign seat_of b) r.2 q.foreign in (
          record { between = p.between; is = p.is; foreign = foreign_both seat_of a b p.between p.foreign (foreign_left seat_of b p.between r.0 f) },
          record { between = r.0; is = r.1; foreign = foreign_right seat_of b p.between r.0 f },
        )

-- ---- names

pub first_in : (n : ℕ) (names : List ℕ) → In n (first_name names) → In n names
first_in n names i = grind (arith, common_steps, first_name)

pub later_in : (n : ℕ) (names : List ℕ) → In n (later_names names) → In n names
later_in n names i = grind (arith, common_steps, later_names)

pub in_names_from : (n a k : ℕ) → In n (names_from a k) → (a ≤ n) × (n < a + k)
in_names_from n a zero i = absurd i
in_names_from n a (suc k) (inl e) = (omega arith, omega arith)
in_names_from n a (suc k) (inr i) = let r = in_names_from n (suc a) k i in (omega (arith, r.0), omega (arith, r.1))

pub length-names_from : (a k : ℕ) → length (names_from a k) ≡ k
length-names_from a zero = refl
length-names_from a (suc k) = ap suc (length-names_from (suc a) k)

-- names in a row are distinct, and so are some of distinct names, and two lists of distinct names without a common one
pub apart_from : (a k : ℕ) → AreApart (names_from a k)
apart_from a zero = tt
apart_from a (suc k) = ((λ i. let high = (in_names_from a (suc a) k i).0 in omega (arith, high)), apart_from (suc a) k)

pub apart_first : (names : List ℕ) → AreApart (first_name names)
apart_first [] = tt
apart_first (n ∷ names) = ((λ i. i), tt)

pub apart_later : (names : List ℕ) → AreApart names → AreApart (later_names names)
apart_later [] apart = tt
apart_later (n ∷ names) apart = apart.1

pub apart_append : (a b : List ℕ) → AreApart a → AreApart b → ((n : ℕ) → In n a → In n b → ⊥) → AreApart (a ++ b)
apart_append [] b one two none = two
apart_append (n ∷ a) b one two none =
    ((λ i. elim (in_either n a b i) [ inl left ↦ one.0 left | inr right ↦ none n (inl refl) right ]), apart_append a b one.1 two (λ k i j. none k (inr i) j))

-- the first of distinct names is not among the others
pub names_apart : (names : List ℕ) → AreApart names → (n : ℕ) → In n (first_name names) → In n (later_names names) → ⊥
names_apart [] apart n i j = i
names_apart (m ∷ names) apart n (inl e) j = apart.0 (subst (λ (k : ℕ). In k names) e j)
names_apart (m ∷ names) apart n (inr z) j = z
