-- A program is wrong exactly if it is no array of at most 1,000 steps, or one of its steps is wrong.
use Rattle.std.proofs.Common.{◌≡◌, ◌∙◌, ℕ, ◌+◌, Bool, true, false, cond, List, [], ◌∷◌, map, arith, Option, Some, None, Result, Ok, Err, refl, ap, sym, is_ok, is_none, not}
use Rattle.std.proofs.lemmas.Grind.{common_steps}
use Rattle.std.specs.List.{position}
use Rattle.serde_json.specs.Data.{Data, Items}
use Rattle.serde_json.specs.Events.{items_len}
use Rattle.serde_json.specs.Find.{as_array}
use Rattle.serde_json.specs.View.{items_of, items_view, view}
use Rattle.serde_json.specs.declared.value.Value.{Value}
use Rattle.fak_text.specs.Gives.{◌>>=◌}
use Rattle.fak_text.specs.Script.{StepOf}
use Rattle.fak_text.specs.StepText.{most_steps, step_op_named, step_with, step_from, program_from}
use Rattle.fak_text.specs.Values.{value_or, number_at, text_at, elements_within, each_from, running_from}
use Rattle.fak_text.specs.declared.fault.Field.TheVariants.{Programs}
use Rattle.fak_text.specs.declared.fault.TextFault.{TextFault}
use Rattle.fak_text.specs.declared.fault.TextFault.TheVariants.{Range, UnknownOp}
use Rattle.fak_places.proofs.Spots.{found_alike}
use Rattle.fak_places.specs.Named.{program_in, step_in}
use Rattle.fak_places.specs.declared.step.Limits.{Limits}

-- ---- the index of a step has no effect on whether it is right

by_op : {O : Type 0} (i : ℕ) (op : Option O) (step : O → Result StepOf TextFault) → is_ok (value_or (UnknownOp i) op >>= step) ≡ is_ok (value_or (UnknownOp 0) op >>= step)
by_op i None step = refl
by_op i (Some op) step = refl

by_name : {O : Type 0} (i : ℕ) (name : Option (List ℕ)) (op : List ℕ → Option O) (step : O → Result StepOf TextFault)
    → is_ok (value_or (Range Programs) name >>= λ n. value_or (UnknownOp i) (op n) >>= step) ≡ is_ok (value_or (Range Programs) name >>= λ n. value_or (UnknownOp 0) (op n) >>= step)
by_name i None op step = refl
by_name i (Some name) op step = by_op i (op name) step

by_items : {O : Type 0} (i : ℕ) (items : Option Items) (name : Option (List ℕ)) (op : List ℕ → Option O) (step : Items → O → Result StepOf TextFault)
    → is_ok (value_or (Range Programs) items >>= λ ds. value_or (Range Programs) name >>= λ n. value_or (UnknownOp i) (op n) >>= step ds)
    ≡ is_ok (value_or (Range Programs) items >>= λ ds. value_or (Range Programs) name >>= λ n. value_or (UnknownOp 0) (op n) >>= step ds)
by_items i None name op step = refl
by_items i (Some ds) name op step = by_name i name op (step ds)

-- the step of this index, in a script with these limits
abbrev step_at : Limits → ℕ → Data → Result StepOf TextFault
step_at limits i d = step_from (record { version = limits.version; semaphores = limits.semaphores; programs = limits.programs }) i d

any_index : (limits : Limits) (i : ℕ) (d : Data) → is_ok (step_at limits i d) ≡ is_ok (step_at limits 0 d)
unfolding step_from
any_index limits i d =
    by_items i (as_array d) (text_at 0 d) (step_op_named limits.version)
    (λ ds op. step_with (record { version = limits.version; semaphores = limits.semaphores; programs = limits.programs }) op (items_len ds) (text_at 1 d) (number_at 1 d))

-- ---- steps are right if none of them is wrong

-- whether these steps are right
abbrev are_right : Limits → ℕ → List Data → Bool
are_right limits i steps = is_ok (each_from (step_at limits) i (items_of steps))

both : {A : Type 0} (first : Result A TextFault) (more : Result (List A) TextFault) → is_ok (first >>= λ x. more >>= λ xs. Ok (x ∷ xs)) ≡ cond (is_ok first) (is_ok more) false
both (Ok x) (Ok xs) = refl
both (Ok x) (Err e) = refl
both (Err e) more = refl

each_right : (limits : Limits) (i : ℕ) (d : Data) (steps : List Data)
    → are_right limits i (d ∷ steps) ≡ cond (is_ok (step_at limits 0 d)) (are_right limits (i + 1) steps) false
unfolding running_from
each_right limits i d steps =
    both (step_at limits i d) (each_from (step_at limits) (i + 1) (items_of steps)) ∙ ap (λ (b : Bool). cond b (are_right limits (i + 1) steps) false) (any_index limits i d)

none_first : (wrong : Data → Bool) (d : Data) (steps : List Data) → is_none (position wrong (d ∷ steps)) ≡ cond (wrong d) false (is_none (position wrong steps))
none_first wrong d steps = grind (arith, common_steps)

flip : (b more : Bool) → cond b more false ≡ cond (not b) false more
flip true more = refl
flip false more = refl

pub none_wrong : (limits : Limits) (i : ℕ) (steps : List Data) → are_right limits i steps ≡ is_none (position (λ d. not (is_ok (step_at limits 0 d))) steps)
unfolding running_from
none_wrong limits i [] = refl
none_wrong limits i (d ∷ steps) =
    let wrong = λ (d : Data). not (is_ok (step_at limits 0 d)) in
    each_right limits i d steps ∙ ap (λ (b : Bool). cond (is_ok (step_at limits 0 d)) b false) (none_wrong limits (i + 1) steps)
    ∙ flip (is_ok (step_at limits 0 d)) (is_none (position wrong steps)) ∙ sym (none_first wrong d steps)

-- ---- programs

right_steps : (limits : Limits) (steps : Items) (elements : List Data) → items_of elements ≡ steps
    → is_ok (each_from (step_at limits) 0 steps) ≡ is_none (position (λ d. not (is_ok (step_at limits 0 d))) elements)
right_steps limits steps elements are = rw (← are) (none_wrong limits 0 elements)

-- a program of these steps is right if none of them is wrong
pub right_program : (limits : Limits) (program : Data) (steps : Items) (elements : List Data) → elements_within Programs most_steps program ≡ Ok steps → items_of elements ≡ steps
    → is_ok (program_in limits program) ≡ is_none (position (λ d. not (is_ok (step_at limits 0 d))) elements)
unfolding program_from
right_program limits program steps elements few are = rw few (right_steps limits steps elements are)

-- a value that is no array of at most 1,000 steps is no program
pub no_program : (limits : Limits) (program : Data) (fault : TextFault) → elements_within Programs most_steps program ≡ Err fault → is_ok (program_in limits program) ≡ false
unfolding program_from
no_program limits program fault many = rw many refl

-- the same, by the values that were read
pub is_right : (limits : Limits) (program : Data) (values : List Value) (found : Option ℕ) → elements_within Programs most_steps program ≡ Ok (items_view values)
    → found ≡ position (λ v. not (is_ok (step_in limits (view v)))) values → is_none found ≡ is_ok (program_in limits program)
is_right limits program values found few first =
    ap (λ (o : Option ℕ). is_none o) (first ∙ sym (found_alike (λ d. not (is_ok (step_at limits 0 d))) values))
    ∙ sym (right_program limits program (items_view values) (map view values) few refl)
