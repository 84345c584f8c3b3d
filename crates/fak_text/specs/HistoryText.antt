-- Which history an input is, and which fault is its first.
use Rattle.std.specs.Prelude.{ℕ, ◌&&◌, ◌==◌, ◌≤◌, All, length, Bool, List, [], ◌∷◌, Option, Some, None, Result, Ok, Err, find, is_some, nat_le, unwrap_or, if◌then◌else◌}
use Rattle.std.specs.Str.{bytes_eq}
use Rattle.serde_json.specs.Data.{Data}
use Rattle.serde_json.specs.Find.{as_array}
use Rattle.serde_json.specs.Events.{items_len}
use Rattle.fak_model.specs.declared.queue.Kind.{Kind}
use Rattle.fak_model.specs.declared.queue.Kind.TheVariants as kinds
use Rattle.fak_model.specs.declared.queue.Mark.{Mark}
use Rattle.fak_text.specs.Gives.{◌>>=◌}
use Rattle.fak_text.specs.Names.{kind_name, number_of}
use Rattle.fak_text.specs.Values.{value_or, input_in, number_at, text_at, number_of_key, elements_of_key, each_from}
use Rattle.fak_text.specs.declared.fault.Field.TheVariants as fields
use Rattle.fak_text.specs.declared.fault.TextFault.{TextFault}
use Rattle.fak_text.specs.declared.fault.TextFault.TheVariants.{Range, UnknownOp}
use Rattle.fak_text.specs.declared.history.History.{History}

-- a history as plain data
pub record HistoryOf : Type 0 where
  pub size : ℕ
  pub marks : List (Mark ℕ)

abbrev pub history_of : History → HistoryOf
history_of h = record { size = h.size; marks = h.marks.items }

-- every kind of mark, with this number if it bears one
abbrev pub kinds_with : ℕ → List (Kind ℕ)
kinds_with n =
    kinds.ClaimIn ∷ kinds.OverIn ∷ kinds.BackIn ∷ kinds.NoRoom ∷ kinds.Put n ∷ kinds.Fill n ∷ kinds.EndIn
    ∷ kinds.ClaimOut ∷ kinds.OverOut ∷ kinds.BackOut ∷ kinds.NoItem ∷ kinds.Got n ∷ kinds.Take n ∷ kinds.EndOut
    ∷ kinds.Close ∷ kinds.Closed ∷ kinds.LateIn ∷ []

-- the kind of this name, with this number if it bears one
unfoldable pub kind_named : List ℕ → ℕ → Option (Kind ℕ)
kind_named name n = find (λ kind. bytes_eq (kind_name kind) name) (kinds_with n)

-- a mark has three elements if it bears a number, and else two
abbrev pub is_complete : Option ℕ → ℕ → Option ℕ → Bool
is_complete None size number = size == 2
is_complete (Some n) size number = (size == 3) && is_some number

-- the mark of this index
unfoldable pub mark_from : ℕ → Data → Result (Mark ℕ) TextFault
mark_from i d = do
  ds ← value_or (Range fields.Marks) (as_array d)
  seat ← value_or (Range fields.Marks) (number_at 0 d)
  name ← value_or (Range fields.Marks) (text_at 1 d)
  kind ← value_or (UnknownOp i) (kind_named name (unwrap_or (number_at 2 d) 0))
  if nat_le seat 63 && is_complete (number_of kind) (items_len ds) (number_at 2 d)
      then Ok (record { seat = seat; kind = kind }) else Err (Range fields.Marks)

abbrev pub most_marks : ℕ
most_marks = 4096

unfoldable pub history_from : Data → Result HistoryOf TextFault
history_from d = do
  size ← number_of_key fields.Size 1 4096 d
  ds ← elements_of_key fields.Marks most_marks d
  marks ← each_from mark_from 0 ds
  Ok (record { size = size; marks = marks })

-- the history of an input
abbrev pub history_in : List ℕ → Result HistoryOf TextFault
history_in bytes = input_in bytes >>= history_from

-- what every history that is read keeps to
pub record IsHistoryInRange (h : HistoryOf) : Type 0 where
  pub size : (1 ≤ h.size) × (h.size ≤ 4096)
  pub count : length h.marks ≤ most_marks
  pub seats : All (λ mark. mark.seat ≤ 63) h.marks
