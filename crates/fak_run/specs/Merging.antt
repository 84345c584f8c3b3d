-- The holds of all seats in one list.
use Rattle.std.specs.Prelude.{ℕ, List, map}
use Rattle.std.specs.List.Sorted.{IsPermutation}
use Rattle.fak_model.specs.declared.file.FileEntry.{FileEntry}
use Rattle.fak_run.specs.Replays.{Replays}
use Rattle.fak_run.specs.Holds.{FileHold, hold_line, gather_from}

-- the holds of all seats in one list, with lines that replay
pub record AreMerged (seats : ℕ) (holds : ℕ → List FileHold) (entries end : List FileEntry) : Type 0 where
  pub list : List FileHold
  pub permutation : IsPermutation (gather_from holds 0 seats) list
  pub replays : Replays entries (map hold_line list) end
