-- What a reading gives is in range: numbers, and the elements of arrays.
use Rattle.std.proofs.lemmas.Grind.{common_steps}
use Rattle.fak_text.proofs.Common.{◌≡◌, ℕ, ◌<◌, ◌≤◌, suc, Bool, true, false, List, ◌∷◌, length, Option, Some, None, Result, Ok, Err, refl, sym, ap, subst, ◌∙◌, nat_lt, nat_le, ◌&&◌, if◌then◌else◌, arith, IfOk, All, ltb-true, leb-true, All-cons, Data, Items, no_items, item, items_len, as_array, ◌>>=◌, Gives, TextFault}
use Rattle.fak_text.specs.ScriptText.{number_from, numbers_of_key}
use Rattle.fak_text.specs.Values.{value_or, value_of_key, number_of_key, whole_number, number_below, number_within, elements_within, elements_of_key, running_from, next_index}
use Rattle.fak_text.specs.declared.fault.Field.{Field}

-- a reading that goes on with a value has one
pub parts_of : {A B : Type 0} (r : Result A TextFault) (f : A → Result B TextFault) (y : B) → (r >>= f) ≡ Ok y → (x : A) × (r ≡ Ok x) × (f x ≡ Ok y)
parts_of (Ok x) f y e = (x, refl, e)
parts_of (Err fault) f y e = absurd (cc)

-- a value that is read under a test has passed it
pub passed : {A : Type 0} (b : Bool) (x y : A) (fault : TextFault) → (if b then Ok x else Err fault) ≡ Ok y → (b ≡ true) × (x ≡ y)
passed true x y fault e = (refl, cc)
passed false x y fault e = absurd (cc)

pub and-true : (a b : Bool) → (a && b) ≡ true → (a ≡ true) × (b ≡ true)
and-true true true e = (refl, refl)
and-true true false e = absurd (cc)
and-true false b e = absurd (cc)

pub below_is_below : (f : Field) (bound : ℕ) (number : Option ℕ) (n : ℕ) → number_below f bound number ≡ Ok n → n < bound
below_is_below f bound None n e = absurd (cc)
below_is_below f bound (Some m) n e = grind (arith, common_steps, passed, nat_lt, ltb-true)

pub within_is_within : (f : Field) (low high : ℕ) (number : Option ℕ) (n : ℕ) → number_within f low high number ≡ Ok n → (low ≤ n) × (n ≤ high)
within_is_within f low high None n e = absurd (cc)
within_is_within f low high (Some m) n e = grind (arith, common_steps, passed, nat_le, and-true, leb-true)

-- what holds of each element that is read holds of all
pub All-running_from : {A : Type 0} (P : A → Type 0) (f : ℕ → Data → Result A TextFault) (next : ℕ → A → ℕ) → ((i : ℕ) (d : Data) (x : A) → f i d ≡ Ok x → P x)
    → (i : ℕ) (ds : Items) (xs : List A) → running_from f next i ds ≡ Ok xs → All P xs
unfolding running_from
All-running_from P f next each i no_items xs e = grind (arith, common_steps)
All-running_from P f next each i (item d ds) xs e =
    let first = parts_of (f i d) (λ x. running_from f next (next i x) ds >>= λ ys. Ok (x ∷ ys)) xs e in
    let rest = parts_of (running_from f next (next i first.0) ds) (λ ys. Ok (first.0 ∷ ys)) xs first.2 in
    let whole : first.0 ∷ rest.0 ≡ xs = cc rest.2 in
    subst (λ ys. All P ys) whole (All-cons P first.0 rest.0 (each i d first.0 first.1) (All-running_from P f next each (next i first.0) ds rest.0 rest.1))

-- as many are read as there are elements
pub length-running_from : {A : Type 0} (f : ℕ → Data → Result A TextFault) (next : ℕ → A → ℕ) (i : ℕ) (ds : Items) (xs : List A) → running_from f next i ds ≡ Ok xs → length xs ≡ items_len ds
unfolding running_from
length-running_from f next i no_items xs e = grind (arith, common_steps, length)
length-running_from f next i (item d ds) xs e =
    let first = parts_of (f i d) (λ x. running_from f next (next i x) ds >>= λ ys. Ok (x ∷ ys)) xs e in
    let rest = parts_of (running_from f next (next i first.0) ds) (λ ys. Ok (first.0 ∷ ys)) xs first.2 in
    let whole : first.0 ∷ rest.0 ≡ xs = cc rest.2 in
    ap length (sym whole) ∙ ap suc (length-running_from f next (next i first.0) ds rest.0 rest.1)

pub elements_are_few : (f : Field) (most : ℕ) (d : Data) (ds : Items) → elements_within f most d ≡ Ok ds → items_len ds ≤ most
unfolding elements_within
elements_are_few f most d ds e = grind (arith, common_steps, parts_of, value_or, as_array, nat_le, items_len, passed, leb-true)

pub elements_of_key_are_few : (f : Field) (most : ℕ) (d : Data) (ds : Items) → elements_of_key f most d ≡ Ok ds → items_len ds ≤ most
unfolding elements_of_key
elements_of_key_are_few f most d ds e = grind (arith, common_steps, parts_of, value_of_key, elements_within, elements_are_few)

pub numbers_are_few : (f : Field) (most bound : ℕ) (d : Data) (ns : List ℕ) → numbers_of_key f most bound d ≡ Ok ns → length ns ≤ most
unfolding numbers_of_key
numbers_are_few f most bound d ns e =
    let found = parts_of (elements_of_key f most d) (λ ds. running_from (number_from f bound) next_index 0 ds) ns e in
    let count = length-running_from (number_from f bound) next_index 0 found.0 ns found.2 in
    let few = elements_of_key_are_few f most d found.0 found.1 in
    omega (arith, count, few)

pub numbers_are_below : (f : Field) (most bound : ℕ) (d : Data) (ns : List ℕ) → numbers_of_key f most bound d ≡ Ok ns → All (λ n. n < bound) ns
unfolding numbers_of_key
numbers_are_below f most bound d ns e =
    let found = parts_of (elements_of_key f most d) (λ ds. running_from (number_from f bound) next_index 0 ds) ns e in
    All-running_from (λ (n : ℕ). n < bound) (number_from f bound) next_index (λ i v n read. below_is_below f bound (whole_number v) n read) 0 found.0 ns found.2

-- what holds of every reading holds of what a reader gives
pub IfOk-from_Gives : {X Y : Type 0} (plain : X → Y) (P : Y → Type 0) (result : Result X TextFault) (reading : Result Y TextFault) → Gives plain result reading → ((y : Y) → reading ≡ Ok y → P y) → IfOk result (λ x. P (plain x))
IfOk-from_Gives plain P (Ok x) reading gives holds = holds (plain x) gives
IfOk-from_Gives plain P (Err fault) reading gives holds = tt

pub number_of_key_is_within : (f : Field) (low high : ℕ) (d : Data) (n : ℕ) → number_of_key f low high d ≡ Ok n → (low ≤ n) × (n ≤ high)
unfolding number_of_key
number_of_key_is_within f low high d n e = grind (arith, common_steps, parts_of, value_of_key, number_within, whole_number, within_is_within)

-- a value that is read under a test holds if both ways do
pub either_way : {A : Type 0} (P : A → Type 0) (b : Bool) (left right : Result A TextFault) (x : A) → ((left ≡ Ok x) → P x) → ((right ≡ Ok x) → P x) → (if b then left else right) ≡ Ok x → P x
either_way P true left right x from_left from_right e = from_left e
either_way P false left right x from_left from_right e = from_right e

-- a value that is made of another holds if that one does
pub made_of : {A B : Type 0} (P : B → Type 0) (r : Result A TextFault) (make : A → B) (y : B) → ((x : A) → r ≡ Ok x → P (make x)) → (r >>= λ x. Ok (make x)) ≡ Ok y → P y
made_of P r make y holds e = grind (arith, common_steps, parts_of)
