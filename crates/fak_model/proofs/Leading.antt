-- What each call does first stays ahead in the marks of a seat, and so in those of all seats.
use Rattle.fak_model.proofs.Common.{nat_tests, sum_by-cons, sum_by_push, sum_by-append, All-head, All-tail, Rules, seat_words, Owes, AreCalls, IsHistory, IsAtRest, AreNamed, sum_below, sym, ◌≡◌, ◌≢◌, ℕ, zero, suc, ◌+◌, ◌*◌, ◌<◌, ◌≤◌, ◌==◌, Bool, true, false, cond, List, [], ◌∷◌, ◌++◌, refl, ap, ◌∙◌, subst, arith, inl, inr, map, sum_by, flat_map, common_steps}
use Rattle.std.proofs.lemmas.List.{append-nil, map_push}
use Rattle.fak_model.proofs.Deciding.{same_or_not}

-- after a and b, g stays ahead of f throughout the list
abbrev pub Leads : {K : Type 0} → (K → ℕ) → (K → ℕ) → ℕ → ℕ → List K → Type 0
Leads f g a b [] = a ≤ b
Leads f g a b (x ∷ xs) = (a ≤ b) × Leads f g (a + f x) (b + g x) xs

leads_prefix : {K : Type 0} (f g : K → ℕ) (a b : ℕ) (xs p q : List K) → Leads f g a b xs → p ++ q ≡ xs → a + sum_by f p ≤ b + sum_by g p
leads_prefix f g a b [] [] q h e = let le : a ≤ b = h in omega arith
leads_prefix f g a b (x ∷ xs) [] q h e = omega (arith, h.0)
leads_prefix f g a b [] (y ∷ p) q h e = absurd cc
leads_prefix f g a b (x ∷ xs) (y ∷ p) q h e =
    let same : y ≡ x = cc in
    let rest = leads_prefix f g (a + f x) (b + g x) xs p q h.1 cc in
    rw same (omega (arith, rest, sum_by-cons f x p, sum_by-cons g x p))

leads_append : {K : Type 0} (f g : K → ℕ) (a b : ℕ) (xs ys : List K) → Leads f g a b xs → Leads f g (a + sum_by f xs) (b + sum_by g xs) ys → Leads f g a b (xs ++ ys)
leads_append f g a b [] ys h k = grind (arith, common_steps)
leads_append f g a b (x ∷ xs) ys h k =
    let ea : a + sum_by f (x ∷ xs) ≡ a + f x + sum_by f xs = omega (arith, sum_by-cons f x xs) in
    let eb : b + sum_by g (x ∷ xs) ≡ b + g x + sum_by g xs = omega (arith, sum_by-cons g x xs) in
    (h.0, leads_append f g (a + f x) (b + g x) xs ys h.1 (subst (λ (n : ℕ). Leads f g n (b + g x + sum_by g xs) ys) ea (subst (λ (n : ℕ). Leads f g (a + sum_by f (x ∷ xs)) n ys) eb k)))

abbrev pub CallsLead : {W C : Type 0} → (C → List W) → (W → ℕ) → (W → ℕ) → Type 0
CallsLead {W} {C} words_of f g = (c : C) (a b : ℕ) → a ≤ b → Leads f g a b (words_of c)

leads_calls : {W C : Type 0} (words_of : C → List W) (f g : W → ℕ) → CallsLead words_of f g → (calls : List C) (a b : ℕ) → a ≤ b → Leads f g a b (flat_map words_of calls)
leads_calls words_of f g each [] a b le = le
leads_calls words_of f g each (c ∷ cs) a b le =
    let here = each c a b le in
    leads_append f g a b (words_of c) (flat_map words_of cs) here (leads_calls words_of f g each cs (a + sum_by f (words_of c)) (b + sum_by g (words_of c)) (leads_prefix f g a b (words_of c) (words_of c) [] here (append-nil (words_of c))))

pub calls_lead : {W C : Type 0} (words_of : C → List W) (f g : W → ℕ) → CallsLead words_of f g → (ws : List W) → AreCalls words_of ws → sum_by f ws ≤ sum_by g ws
calls_lead words_of f g each ws c =
    let le = leads_prefix f g 0 0 (flat_map words_of c.1.0) ws c.0 (leads_calls words_of f g each c.1.0 0 0 (omega arith)) c.1.1 in
    omega (arith, le)

-- ---- sums over seats

pub sum_same : (f g : ℕ → ℕ) (n : ℕ) → ((k : ℕ) → k < n → f k ≡ g k) → sum_below f n ≡ sum_below g n
sum_same f g zero h = refl
sum_same f g (suc n) h = omega (arith, sum_same f g n (λ k l. h k (omega arith)), h n (omega arith))

pub sum_le : (f g : ℕ → ℕ) (n : ℕ) → ((k : ℕ) → f k ≤ g k) → sum_below f n ≤ sum_below g n
sum_le f g zero h = omega arith
sum_le f g (suc n) h = omega (arith, sum_le f g n h, h n)

pub sum_none : (f : ℕ → ℕ) (n : ℕ) → ((k : ℕ) → f k ≡ 0) → sum_below f n ≡ 0
sum_none f zero h = refl
sum_none f (suc n) h = omega (arith, sum_none f n h, h n)

-- sums of two functions that differ at one seat
pub sum_one : (f g : ℕ → ℕ) (t n : ℕ) → t < n → ((k : ℕ) → k ≢ t → g k ≡ f k) → sum_below g n + f t ≡ sum_below f n + g t
sum_one f g t zero l e = absurd (omega arith)
sum_one f g t (suc n) l e = elim (same_or_not n t) [
  | inl q ↦ (let rest = sum_same g f n (λ k b. e k (omega arith)) in let x = ap f q in let y = ap g q in omega arith)
  | inr d ↦ (let rest = sum_one f g t n (omega arith) e in let here = e n d in omega arith)
]

pub sum_plus : (f g : ℕ → ℕ) (n : ℕ) → sum_below (λ k. f k + g k) n ≡ sum_below f n + sum_below g n
sum_plus f g zero = refl
sum_plus f g (suc n) = omega (arith, sum_plus f g n)

-- a bound for each seat, times the number of seats, bounds the sum
pub sum_most : (f : ℕ → ℕ) (most n : ℕ) → ((k : ℕ) → k < n → f k ≤ most) → sum_below f n ≤ n * most
sum_most f most zero h = omega arith
sum_most f most (suc n) h =
    let rest : sum_below f n ≤ n * most = sum_most f most n (λ k below. h k (omega arith)) in
    let here : f n ≤ most = h n (omega arith) in
    grind (arith, rest, here)

-- one seat's part is at most the sum
pub sum_term : (f : ℕ → ℕ) (t n : ℕ) → t < n → f t ≤ sum_below f n
sum_term f t zero l = absurd (omega arith)
sum_term f t (suc n) l = elim (same_or_not n t) [
  | inl q ↦ omega (arith, ap f q)
  | inr d ↦ omega (arith, sum_term f t n (omega arith))
]

said_first : {M W C : Type 0} (rules : Rules M W C) (f : W → ℕ) (m : M) (h : List M) (k : ℕ) (b : Bool) → (rules.seat_of m == k) ≡ b
    → sum_by f (seat_words rules k (m ∷ h)) ≡ cond b (f (rules.word_of m)) 0 + sum_by f (seat_words rules k h)
said_first rules f m h k b is = grind (arith, common_steps, sum_by, seat_words, sum_by-cons)

-- the sum over the seats' own marks is the sum over all marks
pub sum_parts : {M W C : Type 0} (rules : Rules M W C) (f : W → ℕ) (n : ℕ) (h : List M) → AreNamed rules n h → sum_below (λ k. sum_by f (seat_words rules k h)) n ≡ sum_by f (map rules.word_of h)
sum_parts rules f n [] named = sum_none (λ k. sum_by f (seat_words rules k [])) n (λ k. refl)
sum_parts {M} rules f n (m ∷ h) named =
    let Named : M → Type 0 = λ (w : M). rules.seat_of w < n in
    let old : ℕ → ℕ = λ (k : ℕ). sum_by f (seat_words rules k h) in
    let new : ℕ → ℕ = λ (k : ℕ). sum_by f (seat_words rules k (m ∷ h)) in
    let at : ℕ = rules.seat_of m in
    let here : new at ≡ f (rules.word_of m) + old at = said_first rules f m h at true (grind (arith, nat_tests)) in
    let one = sum_one old new at n (All-head Named m h named) (λ k d. said_first rules f m h k false (grind (arith, nat_tests)) ∙ omega arith) in
    omega (arith, one, here, sum_parts rules f n h (All-tail Named m h named), sum_by-cons f (rules.word_of m) (map rules.word_of h))

pub history_leads : {M W C : Type 0} (rules : Rules M W C) (f g : W → ℕ) → CallsLead rules.words_of f g → (seats : ℕ) (h : List M) → IsHistory rules h → AreNamed rules seats h → sum_by f (map rules.word_of h) ≤ sum_by g (map rules.word_of h)
history_leads rules f g each seats h law named =
    let le = sum_le (λ k. sum_by f (seat_words rules k h)) (λ k. sum_by g (seat_words rules k h)) seats (λ k. calls_lead rules.words_of f g each (seat_words rules k h) (law.calls k)) in
    omega (arith, le, sum_parts rules f seats h named, sum_parts rules g seats h named)

pub total_push : {M W : Type 0} (word_of : M → W) (f : W → ℕ) (h : List M) (m : M) → sum_by f (map word_of (h ++ m ∷ [])) ≡ sum_by f (map word_of h) + f (word_of m)
total_push word_of f h m = ap (sum_by f) (map_push word_of h m) ∙ sum_by_push f (map word_of h) (word_of m)

-- if f and g weigh each call equally, they weigh whole calls equally
pub calls_even : {W C : Type 0} (words_of : C → List W) (f g : W → ℕ) → ((c : C) → sum_by f (words_of c) ≡ sum_by g (words_of c)) → (calls : List C) → sum_by f (flat_map words_of calls) ≡ sum_by g (flat_map words_of calls)
calls_even words_of f g each [] = refl
calls_even words_of f g each (c ∷ cs) = omega (arith, each c, calls_even words_of f g each cs, sum_by-append f (words_of c) (flat_map words_of cs), sum_by-append g (words_of c) (flat_map words_of cs))

pub owes_even : {W C : Type 0} (words_of : C → List W) (f g : W → ℕ) → ((c : C) → sum_by f (words_of c) ≡ sum_by g (words_of c)) → (ws owed : List W) → Owes words_of ws owed → sum_by f ws + sum_by f owed ≡ sum_by g ws + sum_by g owed
owes_even words_of f g each ws owed o =
    sym (sum_by-append f ws owed) ∙ (ap (sum_by f) o.1 ∙ (calls_even words_of f g each o.0 ∙ (sym (ap (sum_by g) o.1) ∙ sum_by-append g ws owed)))

-- if f and g weigh each call equally and no call is open, they weigh all marks equally
pub rest_even : {M W C : Type 0} (rules : Rules M W C) (f g : W → ℕ) → ((c : C) → sum_by f (rules.words_of c) ≡ sum_by g (rules.words_of c)) → (seats : ℕ) (h : List M) → IsAtRest rules h → AreNamed rules seats h → sum_by f (map rules.word_of h) ≡ sum_by g (map rules.word_of h)
rest_even rules f g each seats h rest named =
    sym (sum_parts rules f seats h named)
    ∙ (sum_same (λ k. sum_by f (seat_words rules k h)) (λ k. sum_by g (seat_words rules k h)) seats (λ k l. omega (arith, owes_even rules.words_of f g each (seat_words rules k h) [] (rest k)))
    ∙ sum_parts rules g seats h named)
