-- Lists of names in which none occurs twice, and how long they are.
use Rattle.fak_queue.proofs.Common.{◌≡◌, ◌≢◌, ℕ, zero, suc, ◌≤◌, List, [], ◌∷◌, ◌++◌, length, length-append, refl, sym, ◌∙◌, subst, inl, inr, arith, In, IsWhole, in_either}
use Rattle.fak_model.proofs.Seats.{in_left, in_right}

-- a list without one of its names
without : (n : ℕ) (names : List ℕ) → In n names → (rest : List ℕ) × (length names ≡ suc (length rest)) × ((m : ℕ) → m ≢ n → In m names → In m rest)
without n [] i = absurd i
without n (x ∷ names) (inl is) = (names, refl, λ m other i. elim i [ inl same ↦ absurd (other (same ∙ sym is)) | inr later ↦ later ])
without n (x ∷ names) (inr i) =
    let w = without n names i in
    (x ∷ w.0, omega (arith, w.1), λ m other j. elim j [ inl same ↦ inl same | inr later ↦ inr (w.2 m other later) ])

-- a list with each name below a number is at least that long
takes_as_many : (n : ℕ) (names : List ℕ) → IsWhole n names → n ≤ length names
takes_as_many zero names whole = omega arith
takes_as_many (suc n) names whole =
    let w = without n names (whole n (omega arith)) in
    let rest = takes_as_many n w.0 (λ m low. w.2 m (λ same. omega (arith, same, low)) (whole m (omega (arith, low)))) in
    omega (arith, w.1, rest)

-- no name occurs twice: each list with these names is at least as long
abbrev pub StandOnce : List ℕ → Type 0
StandOnce names = (other : List ℕ) → ((m : ℕ) → In m names → In m other) → length names ≤ length other

-- a name for each seat, and no more names than seats
pub whole_once : {seats : ℕ} (names : List ℕ) → IsWhole seats names → length names ≤ seats → StandOnce names
whole_once names whole few other all = omega (arith, few, takes_as_many _ other (λ n low. all n (whole n low)))

pub front_once : (names more : List ℕ) → StandOnce (names ++ more) → StandOnce names
front_once names more once other all =
    let longer = once (other ++ more) (λ m i. elim (in_either m names more i) [ inl early ↦ in_left m other more (all m early) | inr late ↦ in_right m other more late ]) in
    omega (arith, longer, length-append names more, length-append other more)

pub last_is_new : (names : List ℕ) (n : ℕ) → StandOnce (names ++ n ∷ []) → In n names → ⊥
last_is_new names n once there =
    let same = once names (λ m i. elim (in_either m names (n ∷ []) i) [ inl early ↦ early | inr last ↦ elim last [ inl is ↦ subst (λ k. In k names) (sym is) there | inr none ↦ absurd none ] ]) in
    omega (arith, same, length-append names (n ∷ []))
