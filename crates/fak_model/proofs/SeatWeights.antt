-- What tallies know, by name, and what an only seat knows.
use Rattle.fak_model.proofs.Common.{nat_tests, sum_by-cons, filter-append, All-head, All-tail, All-cons, All-nil, In, is_in, marks_of, mine, Knows, before_mark, ◌≡◌, ◌⊎◌, ℕ, suc, ◌+◌, ◌<◌, ◌≤◌, ◌==◌, Bool, true, false, List, [], ◌∷◌, ◌++◌, length, refl, ap, sym, ◌∙◌, subst, arith, inl, inr, ◌||◌, All, sum_by, append-nil, false_from_ne_true, common_steps}
use Rattle.fak_model.proofs.Seats.{between_foreign}

-- ---- names

pub is_in_is : (n : ℕ) (names : List ℕ) → is_in n names ≡ true → In n names
is_in_is n [] e = absurd (cc)
is_in_is n (m ∷ names) e = by (n == m) refl e (λ more. is_in_is n names more) where
  by : (b : Bool) → (n == m) ≡ b → (b || is_in n names) ≡ true → (is_in n names ≡ true → In n names) → (n ≡ m) ⊎ In n names
  by true is e later = inl (grind (arith, nat_tests))
  by false is e later = inr (later e)

is_in_push : (n k : ℕ) (names : List ℕ) → is_in k (names ++ n ∷ []) ≡ (is_in k names || (k == n))
is_in_push n k [] = elim (k == n) as (λ b. (b || false) ≡ b) [ true ↦ refl | false ↦ refl ]
is_in_push n k (m ∷ names) = let rest = is_in_push n k names in elim (k == m) as (λ b. (b || is_in k (names ++ n ∷ [])) ≡ ((b || is_in k names) || (k == n))) [ true ↦ refl | false ↦ rest ]

-- ---- tallies

-- the marks of one name
pub mine_one : {M : Type 0} (seat_of : M → ℕ) (n : ℕ) (h : List M) → mine seat_of (n ∷ []) h ≡ marks_of seat_of n h
mine_one seat_of n h = grind (arith, common_steps, mine, marks_of)

-- the marks of these names and one more
pub mine_push : {M : Type 0} (seat_of : M → ℕ) (v : M → ℕ) (names : List ℕ) (n : ℕ) → is_in n names ≡ false → (h : List M)
    → sum_by v (mine seat_of (names ++ n ∷ []) h) ≡ sum_by v (mine seat_of names h) + sum_by v (marks_of seat_of n h)
mine_push seat_of v names n new [] = refl
mine_push {M} seat_of v names n new (m ∷ h) = by (is_in (seat_of m) names) (seat_of m == n) refl refl (mine_push seat_of v names n new h) where
  by : (a b : Bool) → is_in (seat_of m) names ≡ a → (seat_of m == n) ≡ b → sum_by v (mine seat_of (names ++ n ∷ []) h) ≡ sum_by v (mine seat_of names h) + sum_by v (marks_of seat_of n h)
      → sum_by v (mine seat_of (names ++ n ∷ []) (m ∷ h)) ≡ sum_by v (mine seat_of names (m ∷ h)) + sum_by v (marks_of seat_of n (m ∷ h))
  by true true a b rest = grind (arith, common_steps, nat_tests, is_in)
  by true false a b rest = grind (arith, common_steps, is_in, is_in_push, sum_by-cons, mine)
  by false true a b rest = grind (arith, common_steps, is_in, is_in_push, sum_by-cons, mine, marks_of)
  by false false a b rest = grind (arith, common_steps, is_in, is_in_push)

pub mine_more : {M : Type 0} (seat_of : M → ℕ) (v : M → ℕ) (names : List ℕ) (n : ℕ) (h : List M) → (In n names → ⊥)
    → sum_by v (mine seat_of (names ++ n ∷ []) h) ≡ sum_by v (mine seat_of names h) + sum_by v (marks_of seat_of n h)
mine_more seat_of v names n h new = mine_push seat_of v names n (false_from_ne_true (is_in n names) (λ there. new (is_in_is n names there))) h

-- if none of the names has a mark, mine is empty
mine_none : {M : Type 0} (seat_of : M → ℕ) (names : List ℕ) (h : List M) → ((n : ℕ) → In n names → marks_of seat_of n h ≡ []) → mine seat_of names h ≡ []
mine_none seat_of names [] none = refl
mine_none {M} seat_of names (m ∷ h) none = by (is_in (seat_of m) names) refl (λ later. mine_none seat_of names h later) where
  tail_none : (n : ℕ) (b : Bool) → (seat_of m == n) ≡ b → marks_of seat_of n (m ∷ h) ≡ [] → marks_of seat_of n h ≡ []
  tail_none n b is e = grind (arith, common_steps, marks_of)

  by : (b : Bool) → is_in (seat_of m) names ≡ b → (((n : ℕ) → In n names → marks_of seat_of n h ≡ []) → mine seat_of names h ≡ []) → mine seat_of names (m ∷ h) ≡ []
  by true is later =
      let here = none (seat_of m) (is_in_is (seat_of m) names is) in
      let own : (seat_of m == seat_of m) ≡ true = grind (arith, nat_tests) in
      let e' : m ∷ marks_of seat_of (seat_of m) h ≡ [] = rw own at here in
      absurd (cc)
  by false is later = rw is (later (λ n i. tail_none n (seat_of m == n) refl (none n i)))

-- names know all their own marks of the history
pub mine_known : {M : Type 0} (seat_of : M → ℕ) (names : List ℕ) (seen h : List M) → Knows seat_of names seen h → mine seat_of names h ≡ mine seat_of names seen
mine_known {M} seat_of names seen h k =
    let his : M → Bool = λ (m : M). is_in (seat_of m) names in
    let none = mine_none seat_of names k.begins.0 (λ n i. between_foreign seat_of names seen h k n i) in
    ap (mine seat_of names) (sym k.begins.1) ∙ (filter-append his seen k.begins.0 ∙ (ap (λ l. mine seat_of names seen ++ l) none ∙ append-nil (mine seat_of names seen)))

-- what a tally and one more seat know of one history
pub mine_joined : {M : Type 0} (seat_of : M → ℕ) (v : M → ℕ) (names : List ℕ) (n : ℕ) (of_tally of_seat h : List M) → (In n names → ⊥)
    → Knows seat_of names of_tally h → Knows seat_of (n ∷ []) of_seat h
    → sum_by v (mine seat_of (names ++ n ∷ []) h) ≡ sum_by v (mine seat_of names of_tally) + sum_by v (marks_of seat_of n of_seat)
mine_joined seat_of v names n of_tally of_seat h new k l =
    let parts = mine_more seat_of v names n h new in
    let old = ap (sum_by v) (mine_known seat_of names of_tally h k) in
    let his = ap (sum_by v) (l.own n (inl refl)) in
    omega (arith, parts, old, his)

-- ---- a seat that never began a call

-- a name without marks adds nothing to mine
pub mine_same : {M : Type 0} (seat_of : M → ℕ) (names : List ℕ) (n : ℕ) (h : List M) → marks_of seat_of n h ≡ [] → mine seat_of (names ++ n ∷ []) h ≡ mine seat_of names h
mine_same seat_of names n [] none = refl
mine_same {M} seat_of names n (m ∷ h) none = by (seat_of m == n) refl (λ later. mine_same seat_of names n h later) where
  here : (a : Bool) → is_in (seat_of m) names ≡ a → (seat_of m == n) ≡ false → mine seat_of (names ++ n ∷ []) h ≡ mine seat_of names h → mine seat_of (names ++ n ∷ []) (m ∷ h) ≡ mine seat_of names (m ∷ h)
  here a a' other rest = grind (arith, common_steps, is_in, mine, is_in_push)

  by : (b : Bool) → (seat_of m == n) ≡ b → (marks_of seat_of n h ≡ [] → mine seat_of (names ++ n ∷ []) h ≡ mine seat_of names h) → mine seat_of (names ++ n ∷ []) (m ∷ h) ≡ mine seat_of names (m ∷ h)
  by true is later = let e : m ∷ marks_of seat_of n h ≡ [] = rw is at none in absurd (cc)
  by false is later = here (is_in (seat_of m) names) refl is (later (rw is at none))

pub named_more : {M : Type 0} (seat_of : M → ℕ) (seats more : ℕ) (h : List M) → All (λ (m : M). seat_of m < seats) h → seats ≤ more → All (λ (m : M). seat_of m < more) h
named_more seat_of seats more h named le = grind (arith, common_steps)

-- a name beyond those of all seats has no marks
pub none_beyond : {M : Type 0} (seat_of : M → ℕ) (seats n : ℕ) (h : List M) → All (λ (m : M). seat_of m < seats) h → seats ≤ n → marks_of seat_of n h ≡ []
none_beyond seat_of seats n [] named le = refl
none_beyond {M} seat_of seats n (m ∷ h) named le =
    let Named : M → Type 0 = λ (w : M). seat_of w < seats in
    let low : seat_of m < seats = All-head Named m h named in
    let f : (seat_of m == n) ≡ false = grind (arith, nat_tests) in
    rw f (none_beyond seat_of seats n h (All-tail Named m h named) le)

-- ---- an only seat

-- all marks belong to the one seat
pub all_mine : {M : Type 0} (seat_of : M → ℕ) (h : List M) → All (λ (m : M). seat_of m < 1) h → marks_of seat_of 0 h ≡ h
all_mine seat_of [] named = refl
all_mine {M} seat_of (m ∷ h) named =
    let Named : M → Type 0 = λ (w : M). seat_of w < 1 in
    let low : seat_of m < 1 = All-head Named m h named in
    let t : (seat_of m == 0) ≡ true = grind (arith, nat_tests) in
    rw t (ap (λ l. m ∷ l) (all_mine seat_of h (All-tail Named m h named)))

-- so what it has seen grows only by the marks of its own calls
pub only_grows : {M : Type 0} (seat_of : M → ℕ) (old new marks : List M) → All (λ (m : M). seat_of m < 1) old → All (λ (m : M). seat_of m < 1) new
    → marks_of seat_of 0 new ≡ marks_of seat_of 0 old ++ marks → new ≡ old ++ marks
only_grows seat_of old new marks was named is = sym (all_mine seat_of new named) ∙ (is ∙ ap (λ l. l ++ marks) (all_mine seat_of old was))

before_only : {M : Type 0} (seat_of : M → ℕ) (old : List M) (m : M) (rest : List M) (n : ℕ) → n ≡ length old → All (λ (x : M). seat_of x < 1) (old ++ m ∷ rest) → before_mark seat_of 0 n (old ++ m ∷ rest) ≡ old
before_only {M} seat_of [] m rest n is named =
    let Named : M → Type 0 = λ (w : M). seat_of w < 1 in
    let low : seat_of m < 1 = All-head Named m rest named in
    let t : (seat_of m == 0) ≡ true = grind (arith, nat_tests) in
    subst (λ k. before_mark seat_of 0 k (m ∷ rest) ≡ []) (sym is) (rw t refl)
before_only {M} seat_of (x ∷ old) m rest n is named =
    let Named : M → Type 0 = λ (w : M). seat_of w < 1 in
    let low : seat_of x < 1 = All-head Named x (old ++ m ∷ rest) named in
    let t : (seat_of x == 0) ≡ true = grind (arith, nat_tests) in
    let one : n ≡ suc (length old) = omega arith in
    subst (λ k. before_mark seat_of 0 k (x ∷ (old ++ m ∷ rest)) ≡ x ∷ old) (sym one) (rw t (ap (λ l. x ∷ l) (before_only seat_of old m rest (length old) refl (All-tail Named x (old ++ m ∷ rest) named))))

pub all_front : {M : Type 0} (P : M → Type 0) (xs ys : List M) → All P (xs ++ ys) → All P xs
all_front P [] ys all = All-nil P
all_front P (x ∷ xs) ys all = All-cons P x xs (All-head P x (xs ++ ys) all) (all_front P xs ys (All-tail P x (xs ++ ys) all))

-- and before the first mark of a call comes exactly what it had seen
pub only_before : {M : Type 0} (seat_of : M → ℕ) (old : List M) (m : M) (rest : List M) → All (λ (x : M). seat_of x < 1) (old ++ m ∷ rest) → before_mark seat_of 0 (length (marks_of seat_of 0 old) + 0) (old ++ m ∷ rest) ≡ old
only_before {M} seat_of old m rest named =
    let Named : M → Type 0 = λ (x : M). seat_of x < 1 in
    let mine = ap length (all_mine seat_of old (all_front Named old (m ∷ rest) named)) in
    before_only seat_of old m rest (length (marks_of seat_of 0 old) + 0) (omega arith) named
