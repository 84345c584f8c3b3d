-- The steps that are read are in range.
use Rattle.std.proofs.lemmas.Grind.{common_steps}
use Rattle.std.specs.List.{All, list_all}
use Rattle.fak_text.proofs.Common.{◌>>=◌, TextFault, ◌≡◌, ℕ, ◌<◌, ◌≤◌, Bool, true, false, List, length, Option, Some, None, Result, Ok, Err, refl, sym, subst, nat_le, ◌==◌, if◌then◌else◌, arith, leb-true, eqb-true, Data, items_len, as_array, StepOf, say, yield, down, up, open_file, close_file, stat, spawn, shutdown, IsWithin, IsSayable, most_inode, IsStepInRange, IsProgramInRange, Range}
use Rattle.fak_text.specs.StepText.{any_op_named, has_op, op_of_version, step_op_named, is_printable, is_sayable, said_text, lone_step, inode_argument, argument_below, step_with, step_from, most_steps, program_from, index_after, programs_from, most_programs, programs_of_key}
use Rattle.fak_text.specs.Values.{value_or, number_within, number_below, number_at, text_at, elements_within, elements_of_key, running_from, next_index}
use Rattle.fak_text.specs.declared.fault.Field.TheVariants.{Programs}
use Rattle.fak_text.specs.declared.reading.step.StepOp.{StepOp}
use Rattle.fak_text.specs.declared.reading.step.StepOp.TheVariants as ops
use Rattle.fak_text.specs.declared.steps.StepLimits.{StepLimits}
use Rattle.fak_text.proofs.ReadRange.{parts_of, passed, and-true, below_is_below, within_is_within, All-running_from, length-running_from, elements_are_few, elements_of_key_are_few, made_of, either_way}

printable_is_within : (b : ℕ) → is_printable b ≡ true → IsWithin 32 126 b
printable_is_within b e = grind (arith, common_steps, and-true, nat_le, leb-true)

sayable_may_be_said : (text : List ℕ) → is_sayable text ≡ true → IsSayable text
sayable_may_be_said text e = grind (arith, common_steps, and-true, nat_le, length, list_all, is_printable, leb-true, printable_is_within)

said_may_be_said : (size : ℕ) (text : Option (List ℕ)) (t : List ℕ) → said_text size text ≡ Ok t → IsSayable t
said_may_be_said size None t e = absurd (cc)
said_may_be_said size (Some u) t e = grind (arith, common_steps, passed, is_sayable, and-true, sayable_may_be_said)

inode_is_within : (size : ℕ) (number : Option ℕ) (n : ℕ) → inode_argument size number ≡ Ok n → IsWithin 1 most_inode n
inode_is_within size number n e =
    either_way (λ k. IsWithin 1 most_inode k) (size == 2) (number_within Programs 1 most_inode number) (Err (Range Programs)) n (within_is_within Programs 1 most_inode number n) (λ h. absurd (cc)) e

argument_is_below : (size bound : ℕ) (number : Option ℕ) (n : ℕ) → argument_below size bound number ≡ Ok n → n < bound
argument_is_below size bound number n e =
    either_way (λ k. k < bound) (size == 2) (number_below Programs bound number) (Err (Range Programs)) n (below_is_below Programs bound number n) (λ h. absurd (cc)) e

-- an operation that a version has
op_is_in_version : (version : ℕ) (o : Option StepOp) (op : StepOp) (fault : TextFault) → value_or fault (op_of_version version o) ≡ Ok op → has_op version op ≡ true
op_is_in_version version None op fault e = absurd (cc)
op_is_in_version version (Some o) op fault e = by_test (has_op version o) refl e where
  by_test : (b : Bool) → has_op version o ≡ b → value_or fault (if b then Some o else None) ≡ Ok op → has_op version op ≡ true
  by_test true h k =
      let same : o ≡ op = cc in
      subst (λ (p : StepOp). has_op version p ≡ true) same h
  by_test false h k = absurd (cc)

-- a step with an argument in range
step_of_argument : {A : Type 0} (limits : StepLimits) (r : Result A TextFault) (make : A → StepOf) (step : StepOf)
    → ((x : A) → r ≡ Ok x → IsStepInRange limits (make x)) → (r >>= λ x. Ok (make x)) ≡ Ok step → IsStepInRange limits step
step_of_argument limits r make step ranges e = made_of (λ s. IsStepInRange limits s) r make step ranges e

lone_is_in_range : (limits : StepLimits) (lone step : StepOf) (size : ℕ) → IsStepInRange limits lone → lone_step lone size ≡ Ok step → IsStepInRange limits step
lone_is_in_range limits lone step size ranges e = grind (arith, common_steps, passed)

step_with_is_in_range : (limits : StepLimits) (op : StepOp) (size : ℕ) (text : Option (List ℕ)) (number : Option ℕ) (step : StepOf)
    → has_op limits.version op ≡ true → step_with limits op size text number ≡ Ok step → IsStepInRange limits step
step_with_is_in_range limits ops.Say size text number step has e = step_of_argument limits (said_text size text) say step (λ t read. said_may_be_said size text t read) e
step_with_is_in_range limits ops.Yield size text number step has e = lone_is_in_range limits yield step size tt e
step_with_is_in_range limits ops.Down size text number step has e = step_of_argument limits (argument_below size limits.semaphores number) down step (λ n read. argument_is_below size limits.semaphores number n read) e
step_with_is_in_range limits ops.Up size text number step has e = step_of_argument limits (argument_below size limits.semaphores number) up step (λ n read. argument_is_below size limits.semaphores number n read) e
step_with_is_in_range limits ops.OpenFile size text number step has e = step_of_argument limits (inode_argument size number) open_file step (λ n read. inode_is_within size number n read) e
step_with_is_in_range limits ops.CloseFile size text number step has e = step_of_argument limits (inode_argument size number) close_file step (λ n read. inode_is_within size number n read) e
step_with_is_in_range limits ops.Stat size text number step has e = step_of_argument limits (inode_argument size number) stat step (λ n read. inode_is_within size number n read) e
step_with_is_in_range limits ops.Spawn size text number step has e = step_of_argument limits (argument_below size limits.programs number) spawn step (λ n read. argument_is_below size limits.programs number n read) e
step_with_is_in_range limits ops.Shutdown size text number step has e = lone_is_in_range limits shutdown step size (eqb-true limits.version 2 has) e

step_is_in_range : (limits : StepLimits) (i : ℕ) (d : Data) (step : StepOf) → step_from limits i d ≡ Ok step → IsStepInRange limits step
unfolding step_from
step_is_in_range limits i d step e = grind (arith, common_steps, parts_of, value_or, as_array, text_at, step_op_named, step_with_is_in_range, items_len, number_at, op_is_in_version, any_op_named)

program_is_in_range : (limits : StepLimits) (i : ℕ) (d : Data) (steps : List StepOf) → program_from limits i d ≡ Ok steps → IsProgramInRange limits steps
unfolding program_from
program_is_in_range limits i d steps e =
    let found = parts_of (elements_within Programs most_steps d) (λ ds. running_from (step_from limits) next_index i ds) steps e in
    let few = elements_are_few Programs most_steps d found.0 found.1 in
    let count = length-running_from (step_from limits) next_index i found.0 steps found.2 in
    (omega (arith, few, count), All-running_from (λ (s : StepOf). IsStepInRange limits s) (step_from limits) next_index (step_is_in_range limits) i found.0 steps found.2)

pub programs_are_few : (version semaphores : ℕ) (d : Data) (programs : List (List StepOf)) → programs_of_key version semaphores d ≡ Ok programs → length programs ≤ 64
unfolding programs_of_key
programs_are_few version semaphores d programs e = grind (arith, common_steps, parts_of, elements_of_key, most_programs, programs_from, items_len, elements_of_key_are_few, length-running_from, program_from, index_after)

pub programs_are_in_range : (version semaphores : ℕ) (d : Data) (programs : List (List StepOf)) → programs_of_key version semaphores d ≡ Ok programs
    → All (λ steps. IsProgramInRange (record { version = version; semaphores = semaphores; programs = length programs }) steps) programs
unfolding programs_of_key
programs_are_in_range version semaphores d programs e =
    let found = parts_of (elements_of_key Programs most_programs d) (λ ds. programs_from (record { version = version; semaphores = semaphores; programs = items_len ds }) 0 ds) programs e in
    let limits : StepLimits = record { version = version; semaphores = semaphores; programs = items_len found.0 } in
    let count = length-running_from (program_from limits) index_after 0 found.0 programs found.2 in
    subst (λ (k : ℕ). All (λ steps. IsProgramInRange (record { version = version; semaphores = semaphores; programs = k }) steps) programs) (sym count)
    (All-running_from (λ (steps : List StepOf). IsProgramInRange limits steps) (program_from limits) index_after (program_is_in_range limits) 0 found.0 programs found.2)
