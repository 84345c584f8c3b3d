-- What the results of threads say of the processors that have left, and of a fault.
use Rattle.std.proofs.lemmas.List.{get_or-map, length-map}
use Rattle.fak_text.specs.Script.{ScriptOf}
use Rattle.fak_kernel.specs.declared.fault.RunFault.TheVariants.{Loop}
use Rattle.fak_kernel.proofs.Common.{turn_over, ObjectsOf, ProcessorOf, IsReached, lists_of, Between, IsLeftBy, ◌≡◌, ◌⊎◌, ℕ, zero, suc, ◌<◌, Bool, List, [], ◌∷◌, length, map, get_or, ap, sym, ◌∙◌, subst, arith, inl, inr, Option, Some, None, Result, Ok, Err, IfErr, HasReturned, HasBegun, HasLeft, as_left, first_fault, LoopFault, Step, Gate, Memory, true, IsRefused, OneIsRefused}

-- what holds for each result holds for that of a processor that has left
pub left_at : {A : Type 0} (P : ℕ → Result (Option A) LoopFault → Type 0) (results : List (Result (Option A) LoopFault)) (left : List A) → map as_left left ≡ results
    → ((i : ℕ) (d : Result (Option A) LoopFault) → i < length results → P i (get_or results i d)) → (i : ℕ) (d : A) → i < length left → P i (as_left (get_or left i d))
left_at P results left is each i d low =
    let long : i < length results = omega (arith, low, length-map left as_left, ap length is) in
    subst (P i) (ap (λ l. get_or l i (as_left d)) (sym is) ∙ get_or-map as_left left i d (as_left d) low) (each i (as_left d) long)

-- what holds for each fault holds for the first, at the processor that returns it
pub met_first : {A : Type 0} (Q : ℕ → LoopFault → Type 0) (results : List (Result A LoopFault)) (fault : LoopFault) → ((i : ℕ) (d : Result A LoopFault) → i < length results → IfErr (get_or results i d) (Q i)) → first_fault results ≡ Some fault
    → (i : ℕ) × (i < length results) × Q i fault
met_first Q [] fault each is = search Rattle.std.proofs.Common.rules
met_first Q (Ok x ∷ others) fault each is =
    let later = met_first (λ (i : ℕ). Q (suc i)) others fault (λ i d low. each (suc i) d (omega (arith, low))) is in
    (suc later.0, omega (arith, later.1), later.2)
met_first Q (Err f ∷ others) fault each is =
    let same : f ≡ fault = search Rattle.std.proofs.Common.rules in
    (0, omega arith, subst (Q 0) same (each zero (Err f) (omega arith)))

-- all have left
pub have_left : {script : ScriptOf} {o : ObjectsOf} {processors : ℕ} {refuses : Bool} {may : ℕ → ℕ → Bool → Type 0} (results : List (Result (Option ProcessorOf) LoopFault)) (left : List ProcessorOf) → map as_left left ≡ results
    → ((i : ℕ) (d : Result (Option ProcessorOf) LoopFault) → i < length results → HasReturned script o processors refuses may i (get_or results i d)) → (i : ℕ) (d : ProcessorOf) → i < length left → HasLeft script o processors i (get_or left i d)
have_left {script} {o} {processors} {refuses} {may} results left is each i d low = let a = left_at (HasReturned script o processors refuses may) results left is each i d low in a.left

-- a run's fault of a loop is the loop's
pub of_loop : {a b : LoopFault} → Loop a ≡ Loop b → a ≡ b
of_loop is = cc

-- if the run returns the gate's fault, one processor was refused
pub run_refused : {script : ScriptOf} {o : ObjectsOf} {processors : ℕ} {refuses : Bool} {may : ℕ → ℕ → Bool → Type 0} (results : List (Result (Option ProcessorOf) LoopFault)) (fault : LoopFault) → length results ≡ processors
    → ((i : ℕ) (d : Result (Option ProcessorOf) LoopFault) → i < length results → HasReturned script o processors refuses may i (get_or results i d)) → (first_fault results ≡ Some fault) ⊎ ((first_fault results ≡ None) × (fault ≡ Step Memory)) → fault ≡ Gate → (refuses ≡ true) × OneIsRefused processors may
run_refused {refuses = refuses} {may = may} results fault long each (inl is) gate =
    let met = met_first (λ (i : ℕ) (f : LoopFault). f ≡ Gate → (refuses ≡ true) × IsRefused (may i)) results fault (λ i d low. let a = each i d low in a.refused) is in
    let refused = met.2 gate in
    (refused.0, record { processor = met.0; below = omega (arith, long, met.1); refused = refused.1 })
run_refused results fault long each (inr is) gate = let clash : Step Memory ≡ Gate = sym is.1 ∙ gate in absurd (cc)

-- each processor has begun
pub begun_each : {script : ScriptOf} {o : ObjectsOf} (processors : ℕ) (all : List ProcessorOf) → length all ≡ processors → ((i : ℕ) (d : ProcessorOf) → i < length all → Between script o i (get_or all i d))
    → (processors ≡ 1 → (d : ProcessorOf) → IsReached script (get_or all 0 d) (turn_over (lists_of script (get_or all 0 d)))) → (i : ℕ) (d : ProcessorOf) → i < length all → HasBegun script o processors i (get_or all i d)
begun_each {script} processors all long each alone i d low = record {
  between = each i d low;
  alone = λ one. let first : i ≡ 0 = omega (arith, one, long, low) in subst (λ k. IsReached script (get_or all k d) (turn_over (lists_of script (get_or all k d)))) (sym first) (alone one d);
}

-- each one is left, and the only one as the list scheduler ends
pub left_each : {script : ScriptOf} {o : ObjectsOf} {processors : ℕ} (left : List ProcessorOf) → ((i : ℕ) (d : ProcessorOf) → i < length left → HasLeft script o processors i (get_or left i d)) → (i : ℕ) (d : ProcessorOf) → i < length left → IsLeftBy script o i (get_or left i d)
left_each left each i d low = let h = each i d low in h.left

pub left_alone : {script : ScriptOf} {o : ObjectsOf} {processors : ℕ} (left : List ProcessorOf) → ((i : ℕ) (d : ProcessorOf) → i < length left → HasLeft script o processors i (get_or left i d)) → length left ≡ processors → processors ≡ 1 → (d : ProcessorOf)
    → IsReached script (get_or left 0 d) (turn_over (lists_of script (get_or left 0 d))) × ((lists_of script (get_or left 0 d)).ready ≡ [])
left_alone left each long one d = let h = each 0 d (omega (arith, long, one)) in (h.alone one, h.still one)
