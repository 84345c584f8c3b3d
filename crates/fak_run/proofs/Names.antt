-- Each name occurs once.
use Rattle.fak_run.proofs.Common.{RowOf, NameAndProgram, named, child, FitsRow, begun_names, ◌≡◌, ◌⊎◌, ℕ, suc, ◌+◌, ◌≤◌, ◌==◌, nat_lt, Bool, true, false, cond, List, [], ◌∷◌, ◌++◌, get_or, refl, ap, ◌∙◌, arith, inl, inr, ◌&&◌, sum_by, All, AllPairs, nat_tests, sum_by-append, sum_by-cons, snoc_ind, ScriptOf, StepOf, steps_of, NoteOf, births_of, Allows, FitsFrom, children_from, children_of, common_steps}
use Rattle.fak_run.proofs.Sums.{sum_by_le, sum_by-zeros}
use Rattle.fak_run.proofs.Permuting.{two_weigh}

-- ---- equal names

abbrev pub same_name : List ℕ → List ℕ → Bool
same_name [] [] = true
same_name [] (b ∷ bs) = false
same_name (a ∷ cs) [] = false
same_name (a ∷ cs) (b ∷ bs) = (a == b) && same_name cs bs

pub same_name_self : (x : List ℕ) → same_name x x ≡ true
same_name_self [] = refl
same_name_self (a ∷ x) = let e : (a == a) ≡ true = grind (arith, nat_tests) in rw e (same_name_self x)

pub same_name_is : (x y : List ℕ) → same_name x y ≡ true → x ≡ y
same_name_is [] [] e = refl
same_name_is [] (b ∷ y) e = absurd (cc)
same_name_is (a ∷ x) [] e = absurd (cc)
same_name_is (a ∷ x) (b ∷ y) e = by (a == b) refl e (λ more. same_name_is x y more) where
  by : (t : Bool) → (a == b) ≡ t → (t && same_name x y) ≡ true → (same_name x y ≡ true → x ≡ y) → a ∷ x ≡ b ∷ y
  by t is e later = grind (arith, common_steps, nat_tests)

pub same_end : (i j : ℕ) (x y : List ℕ) → same_name (x ++ i ∷ []) (y ++ j ∷ []) ≡ (same_name x y && (i == j))
same_end i j [] [] = elim (i == j) as (λ b. (b && true) ≡ b) [ true ↦ refl | false ↦ refl ]
same_end i j [] (b ∷ []) = elim (i == b) as (λ t. (t && false) ≡ false) [ true ↦ refl | false ↦ refl ]
same_end i j [] (b ∷ c ∷ y) = elim (i == b) as (λ t. (t && false) ≡ false) [ true ↦ refl | false ↦ refl ]
same_end i j (a ∷ []) [] = elim (a == j) as (λ t. (t && false) ≡ false) [ true ↦ refl | false ↦ refl ]
same_end i j (a ∷ c ∷ x) [] = elim (a == j) as (λ t. (t && false) ≡ false) [ true ↦ refl | false ↦ refl ]
same_end i j (a ∷ x) (b ∷ y) = let rest = same_end i j x y in elim (a == b) as (λ t. (t && same_name (x ++ i ∷ []) (y ++ j ∷ [])) ≡ ((t && same_name x y) && (i == j))) [ true ↦ rest | false ↦ refl ]

pub not_nameless : (i : ℕ) (x : List ℕ) → same_name (x ++ i ∷ []) [] ≡ false
not_nameless i [] = refl
not_nameless i (a ∷ x) = refl

-- 1 for this name, 0 for any other
abbrev pub is_named : List ℕ → NameAndProgram → ℕ
is_named x n = cond (same_name n.0 x) 1 0

-- ---- the started processes

abbrev pub is_first : ℕ → List ℕ → ℕ
is_first i [] = 0
is_first i (k ∷ []) = cond (nat_lt k i) 0 1
is_first i (k ∷ _ ∷ _) = 0

one_if : (t : Bool) → ◌≡◌ {A = ℕ} (cond (t && true) 1 0) (cond t 1 0)
one_if t = grind (arith, common_steps)

none_if : (t : Bool) → ◌≡◌ {A = ℕ} (cond (t && false) 1 0) 0
none_if t = grind (arith, common_steps)

pub first_le : (i : ℕ) (x : List ℕ) → is_first i x ≤ 1
first_le i x = grind (arith, common_steps, nat_tests)

pub begun_le : (x : List ℕ) (i : ℕ) (programs : List ℕ) → sum_by (is_named x) (begun_names i programs) ≤ is_first i x
begun_le x i [] = omega arith
begun_le [] i (p ∷ ps) = omega (arith, sum_by-cons (is_named []) (i ∷ [], p) (begun_names (suc i) ps), begun_le [] (suc i) ps)
begun_le (k ∷ []) i (p ∷ ps) =
    let parts = sum_by-cons (is_named (k ∷ [])) (i ∷ [], p) (begun_names (suc i) ps) in
    let rest = begun_le (k ∷ []) (suc i) ps in
    let here : is_named (k ∷ []) (i ∷ [], p) ≡ cond (i == k) 1 0 = one_if (i == k) in
    grind (arith, nat_tests)
begun_le (k ∷ j ∷ x) i (p ∷ ps) =
    let parts = sum_by-cons (is_named (k ∷ j ∷ x)) (i ∷ [], p) (begun_names (suc i) ps) in
    let rest = begun_le (k ∷ j ∷ x) (suc i) ps in
    let here : is_named (k ∷ j ∷ x) (i ∷ [], p) ≡ 0 = none_if (i == k) in
    omega (arith, parts, rest, here)

pub first_is_short : (a j : ℕ) (x : List ℕ) → is_first 0 (a ∷ (x ++ j ∷ [])) ≡ 0
first_is_short a j x = grind (arith, common_steps)

-- ---- children

-- a step begins no child, or the child with the next number
child_is : (files n : ℕ) (name : List ℕ) (step : StepOf) (note : NoteOf) → Allows files n step note
    → (child name step note ≡ []) ⊎ ((q : ℕ) × (child name step note ≡ (name ++ n ∷ [], q) ∷ []) × (births_of note ≡ 1))
child_is files n name step note ok = grind (arith, common_steps, child, births_of)

-- 1 if the child is one of p and its number j is not below n, so that p may still begin it, else 0
abbrev still : Bool → ℕ → ℕ → ℕ
still his j n = cond his (cond (nat_lt j n) 0 1) 0

still_less : (his : Bool) (j n more : ℕ) → still his j (n + more) ≤ still his j n
still_less his j n more = grind (arith, common_steps, still, nat_tests)

still_all : (his : Bool) (j : ℕ) → ◌≡◌ {A = ℕ} (still his j 0) (cond his 1 0)
still_all his j = grind (arith, common_steps, still, nat_tests)

still_first : (his : Bool) (j n : ℕ) → cond (his && (n == j)) 1 0 + still his j (n + 1) ≤ still his j n
still_first his j n = grind (arith, common_steps, still, nat_tests)

-- at most one spawn of a journal names this child
children_le : (files n : ℕ) (p : List ℕ) (j : ℕ) (name : List ℕ) (steps : List StepOf) (notes : List NoteOf) → FitsFrom files n steps notes
    → sum_by (is_named (p ++ j ∷ [])) (children_from name steps notes) ≤ still (same_name name p) j n
children_le files n p j name steps [] fits = omega arith
children_le files n p j name [] (m ∷ ms) fits = absurd fits
children_le files n p j name (s ∷ ss) (m ∷ ms) fits =
    let w : NameAndProgram → ℕ = is_named (p ++ j ∷ []) in
    let parts = sum_by-append (is_named (p ++ j ∷ [])) (child name s m) (children_from name ss ms) in
    let rest = children_le files (n + births_of m) p j name ss ms fits.1 in
    elim (child_is files n name s m fits.0) [
      | inl none ↦ (let here : sum_by (is_named (p ++ j ∷ [])) (child name s m) ≡ 0 = ap (sum_by (is_named (p ++ j ∷ []))) none in
          omega (arith, parts, rest, here, still_less (same_name name p) j n (births_of m)))
      | inr one ↦ (let here : sum_by (is_named (p ++ j ∷ [])) (child name s m) ≡ cond (same_name name p && (n == j)) 1 0 =
          ap (sum_by (is_named (p ++ j ∷ []))) one.1 ∙ ap (λ t. 0 + cond t 1 0) (same_end n j name p) ∙ omega arith in
          let rest' : sum_by (is_named (p ++ j ∷ [])) (children_from name ss ms) ≤ still (same_name name p) j (n + 1) = rw one.2 at rest in
          omega (arith, parts, rest', here, still_first (same_name name p) j n))
    ]

-- no spawn names the empty path
children_none : (files n : ℕ) (name : List ℕ) (steps : List StepOf) (notes : List NoteOf) → FitsFrom files n steps notes → sum_by (is_named []) (children_from name steps notes) ≡ 0
children_none files n name steps [] fits = refl
children_none files n name [] (m ∷ ms) fits = absurd fits
children_none files n name (s ∷ ss) (m ∷ ms) fits =
    let parts = sum_by-append (is_named []) (child name s m) (children_from name ss ms) in
    let rest = children_none files (n + births_of m) name ss ms fits.1 in
    elim (child_is files n name s m fits.0) [
      | inl none ↦ (let here : sum_by (is_named []) (child name s m) ≡ 0 = ap (sum_by (is_named [])) none in omega (arith, parts, rest, here))
      | inr one ↦ (let here : sum_by (is_named []) (child name s m) ≡ 0 = ap (sum_by (is_named [])) one.1 ∙ ap (λ t. 0 + cond t 1 0) (not_nameless n name) in omega (arith, parts, rest, here))
    ]

-- ---- rows

-- if no name occurs twice, the names are distinct
pub differ : (rows : List RowOf) → ((x : List ℕ) → sum_by (λ (r : RowOf). is_named x (named r.process)) rows ≤ 1) → AllPairs (λ (a b : RowOf). a.process.name ≡ b.process.name → ⊥) rows
differ rows once_at_most i j d lt below same =
    let x = (get_or rows j d).process.name in
    let two = two_weigh (λ (r : RowOf). is_named x (named r.process)) rows i j d lt below in
    let last : is_named x (named (get_or rows j d).process) ≡ 1 = ap (λ t. cond t 1 0) (same_name_self x) in
    let first : is_named x (named (get_or rows i d).process) ≡ 1 = ap (λ y. cond (same_name y x) 1 0) same ∙ last in
    omega (arith, two, last, first, once_at_most x)

module _ (script : ScriptOf) (rows : List RowOf) (fit : All (FitsRow script) rows)
    (alike : (g : NameAndProgram → ℕ) → sum_by (λ (r : RowOf). g (named r.process)) rows ≡ sum_by g (begun_names 0 script.start) + sum_by (λ (r : RowOf). sum_by g (children_of script r.process)) rows) where
  nameless : sum_by (λ (r : RowOf). is_named [] (named r.process)) rows ≡ 0
  nameless =
      let all = alike (is_named []) in
      let first = begun_le [] 0 script.start in
      let none = sum_by_le (FitsRow script) (λ (r : RowOf). sum_by (is_named []) (children_of script r.process)) (λ r. 0) (λ r f. (let e = children_none script.files 0 r.process.name (steps_of script r.process.program) r.process.journal f.process.fits in omega (arith, e))) rows fit in
      let zeros = sum_by-zeros rows in
      omega (arith, all, first, none, zeros)

  -- the name of a child occurs at most as often as it is begun, and then the name of its parent occurs
  parents : (p : List ℕ) (j : ℕ) → sum_by (λ (r : RowOf). is_named (p ++ j ∷ []) (named r.process)) rows ≤ is_first 0 (p ++ j ∷ []) + sum_by (λ (r : RowOf). is_named p (named r.process)) rows
  parents p j =
      let all = alike (is_named (p ++ j ∷ [])) in
      let first = begun_le (p ++ j ∷ []) 0 script.start in
      let each = sum_by_le (FitsRow script) (λ (r : RowOf). sum_by (is_named (p ++ j ∷ [])) (children_of script r.process)) (λ (r : RowOf). is_named p (named r.process)) (λ r f. omega (arith, children_le script.files 0 p j r.process.name (steps_of script r.process.program) r.process.journal f.process.fits, still_all (same_name r.process.name p) j)) rows fit in
      omega (arith, all, first, each)

  pub once_at_most : (x : List ℕ) → sum_by (λ (r : RowOf). is_named x (named r.process)) rows ≤ 1
  once_at_most = snoc_ind (λ (x : List ℕ). sum_by (λ (r : RowOf). is_named x (named r.process)) rows ≤ 1) (omega (arith, nameless)) (λ p j before. longer p j before)
    where
      longer : (p : List ℕ) (j : ℕ) → sum_by (λ (r : RowOf). is_named p (named r.process)) rows ≤ 1 → sum_by (λ (r : RowOf). is_named (p ++ j ∷ []) (named r.process)) rows ≤ 1
      longer p j before = grind (arith, common_steps, sum_by, named, parents, nameless, first_le, first_is_short)

  pub names_differ : AllPairs (λ (a b : RowOf). a.process.name ≡ b.process.name → ⊥) rows
  names_differ = differ rows once_at_most
