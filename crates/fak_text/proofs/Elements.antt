-- Reading the elements of an array one after the other, as a loop does.
use Rattle.std.proofs.lemmas.Grind.{common_steps}
use Rattle.std.proofs.Common.{arith}
use Rattle.std.proofs.lemmas.List.{append-nil, drop_all}
use Rattle.serde_json.specs.declared.value.Value.{Value}
use Rattle.fak_text.proofs.Common.{running_from, TextFault, ◌≡◌, ℕ, suc, ◌+◌, ◌<◌, ◌≤◌, List, [], ◌∷◌, ◌++◌, length, drop, get_or, Result, Ok, Err, refl, sym, ap, ◌∙◌, append_assoc, add-one, drop-cons, Data, view, items_view, ◌>>=◌, Fails}
use Rattle.fak_text.specs.declared.fault.TextFault.TheVariants as faults

-- what was read before, and what is still read
abbrev pub with_front : {A : Type 0} → List A → Result (List A) TextFault → Result (List A) TextFault
with_front front rest = rest >>= λ xs. Ok (front ++ xs)

with_front-cons : {A : Type 0} (front : List A) (a : A) (rest : Result (List A) TextFault) → with_front front (rest >>= λ xs. Ok (a ∷ xs)) ≡ with_front (front ++ a ∷ []) rest
with_front-cons front a (Ok xs) = ap Ok (simp append_assoc)
with_front-cons front a (Err e) = refl

running_from-drop : {A : Type 0} (f : ℕ → Data → Result A TextFault) (next : ℕ → A → ℕ) (vs : List Value) (s i : ℕ) (v : Value) → i < length vs → v ≡ get_or vs i v
    → running_from f next s (items_view (drop i vs)) ≡ (f s (view v) >>= λ x. running_from f next (next s x) (items_view (drop (suc i) vs)) >>= λ xs. Ok (x ∷ xs))
unfolding running_from
running_from-drop f next vs s i v lt is = grind (arith, common_steps, drop, drop-cons)

-- one element more was read
pub goes_on : {A : Type 0} (f : ℕ → Data → Result A TextFault) (next : ℕ → A → ℕ) (front : List A) (vs : List Value) (s i : ℕ) (v : Value) (a : A) (total : Result (List A) TextFault)
    → i < length vs → v ≡ get_or vs i v → f s (view v) ≡ Ok a
    → with_front front (running_from f next s (items_view (drop i vs))) ≡ total
    → with_front (front ++ a ∷ []) (running_from f next (next s a) (items_view (drop (i + 1) vs))) ≡ total
goes_on f next front vs s i v a total lt is read so_far =
    let one : with_front front (running_from f next s (items_view (drop i vs))) ≡ with_front (front ++ a ∷ []) (running_from f next (next s a) (items_view (drop (suc i) vs))) =
    rw (running_from-drop f next vs s i v lt is, read) (with_front-cons front a _) in
    rw add-one (sym one ∙ so_far)

-- an element has a fault: it is the first
pub ends : {A : Type 0} (f : ℕ → Data → Result A TextFault) (next : ℕ → A → ℕ) (e : TextFault) (front : List A) (vs : List Value) (s i : ℕ) (v : Value) (total : Result (List A) TextFault)
    → i < length vs → v ≡ get_or vs i v → Fails e (f s (view v))
    → with_front front (running_from f next s (items_view (drop i vs))) ≡ total → Fails e total
ends f next faults.Memory front vs s i v total lt is fails so_far = tt
ends f next faults.NotJson front vs s i v total lt is fails so_far = sym so_far ∙ rw (running_from-drop f next vs s i v lt is, fails) refl
ends f next (faults.Missing k) front vs s i v total lt is fails so_far = sym so_far ∙ rw (running_from-drop f next vs s i v lt is, fails) refl
ends f next (faults.Range k) front vs s i v total lt is fails so_far = sym so_far ∙ rw (running_from-drop f next vs s i v lt is, fails) refl
ends f next (faults.UnknownOp k) front vs s i v total lt is fails so_far = sym so_far ∙ rw (running_from-drop f next vs s i v lt is, fails) refl

-- all elements were read
pub is_done : {A : Type 0} (f : ℕ → Data → Result A TextFault) (next : ℕ → A → ℕ) (front : List A) (vs : List Value) (s i : ℕ) (total : Result (List A) TextFault)
    → length vs ≤ i → with_front front (running_from f next s (items_view (drop i vs))) ≡ total → total ≡ Ok front
unfolding running_from
is_done f next front vs s i total le so_far = grind (arith, common_steps, drop, drop_all, running_from, items_view, append-nil)
