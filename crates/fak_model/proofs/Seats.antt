-- What seats and tallies know, after a step and after a join.
use Rattle.fak_model.proofs.Common.{nat_tests, filter-append, All-head, All-tail, Rules, IsHistory, Begins, In, is_in, marks_of, mine, Knows, longer_of, IsWhole, ◌≡◌, ◌⊎◌, ℕ, ◌<◌, ◌≤◌, ◌==◌, true, false, cond, nat_lt, List, [], ◌∷◌, ◌++◌, length, refl, ap, sym, ◌∙◌, subst, arith, inl, inr, ◌||◌, All, append-nil}
use Rattle.fak_model.proofs.Appending.{history_prefix}

pub begins_self : {M : Type 0} (h : List M) → Begins h h
begins_self h = ([], append-nil h)

-- if two lists are prefixes of one list, one of them is a prefix of the other
pub one_begins : {M : Type 0} (s t h : List M) → Begins s h → Begins t h → Begins s t ⊎ Begins t s
one_begins [] t h a b = inl (t, refl)
one_begins (x ∷ s) [] h a b = inr (x ∷ s, refl)
one_begins (x ∷ s) (y ∷ t) [] a b = absurd (cc (a.1))
one_begins (x ∷ s) (y ∷ t) (z ∷ h) a b =
    let heads : x ≡ y = cc (a.1, b.1) in
    elim (one_begins s t h (a.0, cc (a.1)) (b.0, cc (b.1))) [
      | inl w ↦ inl (w.0, cc (heads, w.1))
      | inr w ↦ inr (w.0, cc (heads, w.1))
    ]

-- a seen history is lawful
pub seen_lawful : {M W C : Type 0} (rules : Rules M W C) (seen h : List M) → Begins seen h → IsHistory rules h → IsHistory rules seen
seen_lawful rules seen h b law = history_prefix rules seen b.0 (subst (IsHistory rules) (sym b.1) law)

pub marks_of_append : {M : Type 0} (seat_of : M → ℕ) (n : ℕ) (f g : List M) → marks_of seat_of n (f ++ g) ≡ marks_of seat_of n f ++ marks_of seat_of n g
marks_of_append {M} seat_of n f g = filter-append (λ (m : M). seat_of m == n) f g

pub in_left : (n : ℕ) (a b : List ℕ) → In n a → In n (a ++ b)
in_left n [] b i = absurd i
in_left n (x ∷ a) b (inl e) = inl e
in_left n (x ∷ a) b (inr i) = inr (in_left n a b i)

pub in_right : (n : ℕ) (a b : List ℕ) → In n b → In n (a ++ b)
in_right n [] b i = i
in_right n (x ∷ a) b i = inr (in_right n a b i)

pub in_either : (n : ℕ) (a b : List ℕ) → In n (a ++ b) → In n a ⊎ In n b
in_either n [] b i = inr i
in_either n (x ∷ a) b (inl e) = inl (inl e)
in_either n (x ∷ a) b (inr i) = elim (in_either n a b i) [ inl l ↦ inl (inr l) | inr r ↦ inr r ]

-- ---- a step

-- the marks after the seen history have none of these names
pub between_foreign : {M : Type 0} (seat_of : M → ℕ) (names : List ℕ) (seen h : List M) (k : Knows seat_of names seen h) (n : ℕ) → In n names → marks_of seat_of n k.begins.0 ≡ []
between_foreign seat_of names seen h k n i =
    nothing_more (marks_of seat_of n seen) (marks_of seat_of n k.begins.0) (sym (marks_of_append seat_of n seen k.begins.0) ∙ (ap (marks_of seat_of n) k.begins.1 ∙ k.own n i))
  where
    nothing_more : {A : Type 0} (xs ys : List A) → xs ++ ys ≡ xs → ys ≡ []
    nothing_more [] ys e = e
    nothing_more (x ∷ xs) ys e = nothing_more xs ys cc

-- ---- a split and a join

-- if a shorter seen history has all marks of a name, so has a longer one
more_seen : {M : Type 0} (seat_of : M → ℕ) (n : ℕ) (s t h : List M) → Begins s t → Begins t h → marks_of seat_of n h ≡ marks_of seat_of n s → marks_of seat_of n h ≡ marks_of seat_of n t
more_seen {M} seat_of n s t h b c is =
    let st = sym (marks_of_append seat_of n s b.0) ∙ ap (marks_of seat_of n) b.1 in
    let th = sym (marks_of_append seat_of n t c.0) ∙ ap (marks_of seat_of n) c.1 in
    between (marks_of seat_of n s) (marks_of seat_of n b.0) (marks_of seat_of n c.0) (marks_of seat_of n t) (marks_of seat_of n h) st th is
  where
    nothing_left : {A : Type 0} (xs ys zs : List A) → (xs ++ ys) ++ zs ≡ xs → zs ≡ []
    nothing_left [] [] zs e = e
    nothing_left [] (y ∷ ys) zs e = absurd cc
    nothing_left (x ∷ xs) ys zs e = nothing_left xs ys zs cc

    between : {A : Type 0} (s b c t h : List A) → s ++ b ≡ t → t ++ c ≡ h → h ≡ s → h ≡ t
    between s b c t h e f g = sym f ∙ (ap (λ l. t ++ l) (nothing_left s b c (ap (λ l. l ++ c) e ∙ (f ∙ g))) ∙ append-nil t)

begins_length : {M : Type 0} (s t : List M) → Begins s t → length s ≤ length t
begins_length [] t b = omega arith
begins_length (x ∷ s) [] b = absurd (cc (b.1))
begins_length (x ∷ s) (y ∷ t) b = omega (arith, begins_length s t (b.0, cc (b.1)))

begins_same : {M : Type 0} (s t : List M) → Begins s t → length t ≤ length s → s ≡ t
begins_same [] [] b l = refl
begins_same [] (y ∷ t) b l = absurd (omega arith)
begins_same (x ∷ s) [] b l = absurd (cc (b.1))
begins_same (x ∷ s) (y ∷ t) b l = cc (b.1, begins_same s t (b.0, cc (b.1)) (omega arith))

pub longer_is : {M : Type 0} (s t h : List M) → Begins s h → Begins t h → (Begins s (longer_of s t)) × (Begins t (longer_of s t)) × (Begins (longer_of s t) h)
longer_is {M} s t h a b = elim (nat_lt (length s) (length t)) as (λ c. nat_lt (length s) (length t) ≡ c → Begins s (cond c t s) × Begins t (cond c t s) × Begins (cond c t s) h) [
  | true ↦ λ e. elim (one_begins s t h a b) [
    | inl w ↦ (w, begins_self t, b)
    | inr w ↦ (let l = begins_length t s w in absurd (grind (arith, nat_tests)))
  ]
  | false ↦ λ e. elim (one_begins s t h a b) [
    | inl w ↦ (let le : length t ≤ length s = grind (arith, nat_tests) in let same = begins_same s t w le in (begins_self s, subst (λ l. Begins t l) (sym same) (begins_self t), a))
    | inr w ↦ (begins_self s, w, a)
  ]
] refl

-- two that join have seen one history: they know the longer one, with the names of both
pub knows_both : {M : Type 0} (seat_of : M → ℕ) (a b : List ℕ) (s t h : List M) → Knows seat_of a s h → Knows seat_of b t h → Knows seat_of (a ++ b) (longer_of s t) h
knows_both seat_of a b s t h k l =
    let w = longer_is s t h k.begins l.begins in
    record {
      begins = w.2;
      own = λ n i. elim (in_either n a b i) [
        | inl x ↦ more_seen seat_of n s (longer_of s t) h w.0 w.2 (k.own n x)
        | inr x ↦ more_seen seat_of n t (longer_of s t) h w.1 w.2 (l.own n x)
      ];
    }

-- ---- a whole tally

in_is : (n : ℕ) (names : List ℕ) → In n names → is_in n names ≡ true
in_is n [] i = absurd i
in_is n (m ∷ names) (inl e) = let t : (n == m) ≡ true = grind (arith, nat_tests) in rw t refl
in_is n (m ∷ names) (inr i) = elim (n == m) as (λ b. (b || is_in n names) ≡ true) [ true ↦ refl | false ↦ in_is n names i ]

-- with all names, mine is the whole seen history
pub whole_mine : {M : Type 0} (seat_of : M → ℕ) (seats : ℕ) (names : List ℕ) (seen : List M) → IsWhole seats names → All (λ (m : M). seat_of m < seats) seen → mine seat_of names seen ≡ seen
whole_mine seat_of seats names [] whole named = refl
whole_mine {M} seat_of seats names (m ∷ seen) whole named =
    let Named : M → Type 0 = λ (w : M). seat_of w < seats in
    let is = in_is (seat_of m) names (whole (seat_of m) (All-head Named m seen named)) in
    rw is (ap (λ l. m ∷ l) (whole_mine seat_of seats names seen whole (All-tail Named m seen named)))
