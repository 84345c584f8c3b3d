-- Sums over lists and over semaphores.
use Rattle.fak_run.proofs.Common.{◌≡◌, ◌≢◌, ℕ, ◌+◌, ◌<◌, ◌≤◌, List, [], ◌∷◌, length, refl, arith, map, sum_by, All, flat_map, sum_by-cons, sum_by-append, All-head, All-tail, sum_below, sum_one, sum_none}

pub sum_by-map : {A B : Type 0} (f : B → ℕ) (g : A → B) (xs : List A) → sum_by f (map g xs) ≡ sum_by (λ x. f (g x)) xs
sum_by-map f g [] = refl
sum_by-map f g (x ∷ xs) = omega (arith, sum_by-cons f (g x) (map g xs), sum_by-cons (λ x. f (g x)) x xs, sum_by-map f g xs)

pub sum_by-flat_map : {A B : Type 0} (f : B → ℕ) (g : A → List B) (xs : List A) → sum_by f (flat_map g xs) ≡ sum_by (λ x. sum_by f (g x)) xs
sum_by-flat_map f g [] = refl
sum_by-flat_map f g (x ∷ xs) = omega (arith, sum_by-append f (g x) (flat_map g xs), sum_by-cons (λ x. sum_by f (g x)) x xs, sum_by-flat_map f g xs)

-- if g is f plus e for each element
pub sum_by_plus : {A : Type 0} (P : A → Type 0) (f e g : A → ℕ) → ((x : A) → P x → g x ≡ f x + e x) → (xs : List A) → All P xs → sum_by g xs ≡ sum_by f xs + sum_by e xs
sum_by_plus P f e g each [] all = refl
sum_by_plus P f e g each (x ∷ xs) all = omega (arith, sum_by-cons f x xs, sum_by-cons e x xs, sum_by-cons g x xs, each x (All-head P x xs all), sum_by_plus P f e g each xs (All-tail P x xs all))

pub sum_by_le : {A : Type 0} (P : A → Type 0) (f g : A → ℕ) → ((x : A) → P x → f x ≤ g x) → (xs : List A) → All P xs → sum_by f xs ≤ sum_by g xs
sum_by_le P f g each [] all = omega arith
sum_by_le P f g each (x ∷ xs) all = omega (arith, sum_by-cons f x xs, sum_by-cons g x xs, each x (All-head P x xs all), sum_by_le P f g each xs (All-tail P x xs all))

pub sum_by_less : {A : Type 0} (f g : A → ℕ) → ((x : A) → f x ≤ g x) → (xs : List A) → sum_by f xs ≤ sum_by g xs
sum_by_less f g each [] = omega arith
sum_by_less f g each (x ∷ xs) = omega (arith, sum_by-cons f x xs, sum_by-cons g x xs, each x, sum_by_less f g each xs)

pub sum_by_same : {A : Type 0} (f g : A → ℕ) → ((x : A) → f x ≡ g x) → (xs : List A) → sum_by f xs ≡ sum_by g xs
sum_by_same f g each [] = refl
sum_by_same f g each (x ∷ xs) = omega (arith, sum_by-cons f x xs, sum_by-cons g x xs, each x, sum_by_same f g each xs)

-- if f is 0 wherever e is, and the sum of e is 0, the sum of f is 0
pub sum_by_nothing : {A : Type 0} (e f : A → ℕ) → ((x : A) → e x ≡ 0 → f x ≡ 0) → (xs : List A) → sum_by e xs ≡ 0 → sum_by f xs ≡ 0
sum_by_nothing e f each [] none = refl
sum_by_nothing e f each (x ∷ xs) none =
    let first : e x ≡ 0 = omega (arith, sum_by-cons e x xs, none) in
    let rest : sum_by e xs ≡ 0 = omega (arith, sum_by-cons e x xs, none) in
    omega (arith, sum_by-cons f x xs, each x first, sum_by_nothing e f each xs rest)

pub sum_by-zeros : {A : Type 0} (xs : List A) → sum_by (λ x. 0) xs ≡ 0
sum_by-zeros [] = refl
sum_by-zeros (x ∷ xs) = omega (arith, sum_by-cons (λ y. 0) x xs, sum_by-zeros xs)

pub sum_by-ones : {A : Type 0} (xs : List A) → sum_by (λ x. 1) xs ≡ length xs
sum_by-ones [] = refl
sum_by-ones (x ∷ xs) = omega (arith, sum_by-cons (λ y. 1) x xs, sum_by-ones xs)

-- the sum if only one semaphore counts
pub sum_at : (f : ℕ → ℕ) (s n : ℕ) → s < n → ((t : ℕ) → t ≢ s → f t ≡ 0) → sum_below f n ≡ f s
sum_at f s n below others =
    let one = sum_one (λ (t : ℕ). 0) f s n below others in
    let none = sum_none (λ (t : ℕ). 0) n (λ k. refl) in
    omega (arith, one, none)
