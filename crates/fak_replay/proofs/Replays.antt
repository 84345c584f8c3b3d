-- The text of a replay, action by action.
use Rattle.std.proofs.Common.{◌≡◌, ℕ, suc, ◌+◌, ◌-◌, ◌<◌, List, [], ◌∷◌, ◌++◌, ap, sym, ◌∙◌, arith, append_assoc, replicate}
use Rattle.fak_replay.specs.declared.machine.Machine.{Machine}
use Rattle.fak_replay.specs.declared.row.Row.{Row}
use Rattle.fak_replay.specs.Replay.{Action, ReplayOutcome, steps, outcome_of, rows_from, text_of_row, text_of_rows}

-- an action that prints one row
row_first : (machine next : Machine) (row : Row) (action : Action) (rest : List Action) → outcome_of machine action ≡ record { machine = next; rows = row ∷ [] }
    → text_of_rows (rows_from machine (action ∷ rest)) ≡ (text_of_row row ++ 10 ∷ []) ++ text_of_rows (rows_from next rest)
row_first machine next row action rest is = ap (λ (o : ReplayOutcome). text_of_rows (o.rows ++ rows_from o.machine rest)) is

-- a row is appended, and the rest is still to come
pub row_appended : (text old : List ℕ) (machine next : Machine) (row : Row) (action : Action) (rest : List Action) → outcome_of machine action ≡ record { machine = next; rows = row ∷ [] }
    → text ≡ old ++ (text_of_row row ++ 10 ∷ []) → text ++ text_of_rows (rows_from next rest) ≡ old ++ text_of_rows (rows_from machine (action ∷ rest))
row_appended text old machine next row action rest is more =
    ap (λ t. t ++ text_of_rows (rows_from next rest)) more
    ∙ append_assoc old (text_of_row row ++ 10 ∷ []) (text_of_rows (rows_from next rest))
    ∙ ap (λ t. old ++ t) (sym (row_first machine next row action rest is))

-- one of the steps that are left is done
pub steps_left : (n i seat : ℕ) (rest : List Action) → i < n → replicate (n - i) (steps seat) ++ rest ≡ steps seat ∷ (replicate (n - (i + 1)) (steps seat) ++ rest)
steps_left n i seat rest below =
    let is : n - i ≡ suc (n - (i + 1)) = omega (arith, below) in
    ap (λ (k : ℕ). replicate k (steps seat) ++ rest) is
