-- The front of an input, which has the input's first fault.
use Rattle.std.proofs.Common.{◌≡◌, ℕ, List, [], ◌++◌, take, Option, Some, None, IfSome, option_map, ap, ◌∙◌, subst}
use Rattle.std.specs.Result.{result_err}
use Rattle.std.specs.Io.Take.{take_limit, take_inner, take_remaining}
use Rattle.std.specs.declared.io.traits.Take.{Take}
use Rattle.fak_text.specs.Gives.{◌>>=◌}
use Rattle.fak_text.specs.HistoryText.{history_from}
use Rattle.fak_text.specs.ScheduleText.{schedule_from}
use Rattle.fak_text.specs.ScriptText.{script_from}
use Rattle.fak_text.specs.Values.{most_kept}
use Rattle.fak_text.proofs.Front.{front_read}
use Rattle.fak_places.specs.Places.{fault_in}
use Rattle.fak_places.specs.declared.fault_place.Format.{Format}
use Rattle.fak_places.specs.declared.fault_place.Format.TheVariants as formats
use Rattle.fak_places.specs.Program.{status_of_place}

-- the front of an input has the first fault of the whole
front_fault : (format : Format) (input : List ℕ) → fault_in format (take most_kept input) ≡ fault_in format input
front_fault formats.Schedule input = ap (λ value. result_err (value >>= schedule_from)) (front_read input)
front_fault formats.History input = ap (λ value. result_err (value >>= history_from)) (front_read input)
front_fault formats.Script input = ap (λ value. result_err (value >>= script_from)) (front_read input)

-- the status for the front is that for the whole
pub status_is : (known : Option (List ℕ)) (format : Format) (kept : List ℕ) (status : ℕ) → IfSome known (λ input. kept ≡ take most_kept input)
    → status ≡ status_of_place (fault_in format kept) → IfSome known (λ input. status ≡ status_of_place (fault_in format input))
status_is None format kept status front is = tt
status_is (Some input) format kept status front is =
    is ∙ ap (λ (bytes : List ℕ). status_of_place (fault_in format bytes)) front ∙ ap status_of_place (front_fault format input)

kept_by : (known : Option (List ℕ)) (old kept : List ℕ) → old ≡ [] → IfSome (option_map (take most_kept) known) (λ xs. kept ≡ old ++ xs)
    → IfSome known (λ input. kept ≡ take most_kept input)
kept_by None old kept none read = tt
kept_by (Some input) old kept none read = read ∙ ap (λ (front : List ℕ). front ++ take most_kept input) none

-- what was read up to the limit is the front of the input
pub kept_is : {R : Type 0} (remaining : R → Option (List ℕ)) (limited : Take R) (reader : R) (old kept : List ℕ) → take_limit limited ≡ most_kept → take_inner limited ≡ reader
    → old ≡ [] → IfSome (take_remaining remaining limited) (λ xs. kept ≡ old ++ xs) → IfSome (remaining reader) (λ input. kept ≡ take most_kept input)
kept_is {R} remaining limited reader old kept limit inner none read =
    let by_limit = subst (λ (n : ℕ). IfSome (option_map (take n) (remaining (take_inner limited))) (λ xs. kept ≡ old ++ xs)) limit read in
    let by_reader = subst (λ (r : R). IfSome (option_map (take most_kept) (remaining r)) (λ xs. kept ≡ old ++ xs)) inner by_limit in
    kept_by (remaining reader) old kept none by_reader
