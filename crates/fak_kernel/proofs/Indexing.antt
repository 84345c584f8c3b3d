-- What is said of the elements of a list by their places, after the first is taken off.
use Rattle.fak_kernel.proofs.Common.{◌≡◌, ℕ, suc, ◌+◌, ◌<◌, List, [], ◌∷◌, ◌++◌, length, get_or, ap, sym, ◌∙◌, subst, arith}

pub rest_of : {A : Type 0} (P : ℕ → A → Type 0) (old new : List A) (x : A) (lo ln : ℕ) → old ≡ x ∷ new → ln + 1 ≡ lo → ((k : ℕ) (d : A) → k < lo → P k (get_or old k d)) → (k : ℕ) (d : A) → k < ln → P (k + 1) (get_or new k d)
rest_of P old new x lo ln is long each k d low =
    let next : k + 1 ≡ suc k = omega arith in
    subst (λ y. P (k + 1) y) (ap (λ l. get_or l (k + 1) d) is ∙ ap (λ j. get_or (x ∷ new) j d) next) (each (k + 1) d (omega (arith, low, long)))

pub first_of : {A : Type 0} (P : ℕ → A → Type 0) (old new : List A) (x : A) (lo ln : ℕ) → old ≡ x ∷ new → ln + 1 ≡ lo → ((k : ℕ) (d : A) → k < lo → P k (get_or old k d)) → P 0 x
first_of P old new x lo ln is long each = subst (λ y. P 0 y) (ap (λ l. get_or l 0 x) is) (each 0 x (omega (arith, long)))

-- the same of an iterator that has handed out this many
pub took : {A : Type 0} (Q : ℕ → A → Type 0) (n m lo ln : ℕ) {old new : List A} {x : A} → m ≡ n + 1 → old ≡ x ∷ new → lo ≡ ln + 1 → ((k : ℕ) (d : A) → k < lo → Q (n + k) (get_or old k d))
    → Q n x × ((k : ℕ) (d : A) → k < ln → Q (m + k) (get_or new k d))
took {A} Q n m lo ln {old} {new} {x} next is long each =
    let from : ℕ → A → Type 0 = λ (k : ℕ). Q (n + k) in
    let plus : n + 0 ≡ n = omega arith in (
      subst (λ (j : ℕ). Q j x) plus (first_of from old new x lo ln is (sym long) each),
      λ k d low.
          let e : n + (k + 1) ≡ m + k = omega (arith, next) in
          subst (λ (j : ℕ). Q j (get_or new k d)) e (rest_of from old new x lo ln is (sym long) each k d low),
    )

pub took_first : {A : Type 0} (Q : ℕ → A → Type 0) (la lo ln : ℕ) {all old new : List A} {x : A} → old ≡ all → lo ≡ la → old ≡ x ∷ new → lo ≡ ln + 1 → ((k : ℕ) (d : A) → k < la → Q k (get_or all k d))
    → Q 0 x × ((k : ℕ) (d : A) → k < ln → Q (1 + k) (get_or new k d))
took_first {A} Q la lo ln {all} {old} {new} {x} same len is long each =
    took Q 0 1 lo ln (omega arith) is long (λ k d low.
    let plus : k ≡ 0 + k = omega arith in
    let h : Q k (get_or all k d) = each k d (omega (arith, low, len)) in
    subst (λ (j : ℕ). Q j (get_or old k d)) plus (subst (λ (l : List A). Q k (get_or l k d)) (sym same) h))

-- after none, the element that is put is the first
pub only_one : {A : Type 0} (xs ys : List A) (x d : A) → length xs ≡ 0 → ys ≡ xs ++ x ∷ [] → get_or ys 0 d ≡ x
only_one [] ys x d none is = ap (λ l. get_or l 0 d) is
only_one (y ∷ xs) ys x d none is = absurd (omega (arith, none))
