-- The values of an input of any format, and the first fault if one is absent.
use Rattle.std.specs.Prelude.{◌≡◌, ℕ, ◌+◌, ◌<◌, ◌&&◌, List, [], ◌∷◌, length, Option, Some, None, Result, Ok, Err, option_and_then, nat_lt, nat_le, if◌then◌else◌}
use Rattle.std.specs.Str.{is_utf8}
use Rattle.serde_json.specs.Data.{Data, Items, no_items, item}
use Rattle.serde_json.specs.Find.{get, at, as_number, as_u64, as_str, as_array, as_object}
use Rattle.serde_json.specs.Events.{items_len}
use Rattle.serde_json.specs.Read.{read}
use Rattle.fak_text.specs.Gives.{◌>>=◌}
use Rattle.fak_text.specs.Fields.{name_of}
use Rattle.fak_text.specs.declared.fault.Field.{Field}
use Rattle.fak_text.specs.declared.fault.Field.TheVariants.{Input}
use Rattle.fak_text.specs.declared.fault.TextFault.{TextFault}
use Rattle.fak_text.specs.declared.fault.TextFault.TheVariants.{NotJson, Missing, Range}

-- the value, or this fault if there is none
abbrev pub value_or : {A : Type 0} → TextFault → Option A → Result A TextFault
value_or fault (Some x) = Ok x
value_or fault None = Err fault

-- ---- inputs

-- the value of bytes that are UTF-8 and JSON
abbrev pub json_in : List ℕ → Result Data TextFault
json_in bytes = if is_utf8 bytes then value_or NotJson (read bytes) else Err NotJson

-- how many bytes an input has at most
abbrev pub most_bytes : ℕ
most_bytes = 1048576

-- how many bytes of an input show that it is too long: one more
abbrev pub most_kept : ℕ
most_kept = 1048577

-- the object of an input that is not too long
unfoldable pub input_in : List ℕ → Result Data TextFault
input_in bytes =
    if nat_lt most_bytes (length bytes) then Err (Range Input) else (
    json_in bytes >>= λ d. value_or (Range Input) (as_object d) >>= λ members. Ok d)

-- an input that is too long is refused as such, whatever memory there is
abbrev pub RefusesLong : {A : Type 0} → List ℕ → Result A TextFault → Type 0
RefusesLong bytes reading = most_bytes < length bytes → reading ≡ Err (Range Input)

-- ---- numbers and texts

abbrev pub whole_number : Data → Option ℕ
whole_number d = option_and_then as_u64 (as_number d)

-- the number if it is from low to high
abbrev pub number_within : Field → ℕ → ℕ → Option ℕ → Result ℕ TextFault
number_within f low high None = Err (Range f)
number_within f low high (Some n) = if nat_le low n && nat_le n high then Ok n else Err (Range f)

-- the number if it is below the bound
abbrev pub number_below : Field → ℕ → Option ℕ → Result ℕ TextFault
number_below f bound None = Err (Range f)
number_below f bound (Some n) = if nat_lt n bound then Ok n else Err (Range f)

-- the whole number at an index of an array
abbrev pub number_at : ℕ → Data → Option ℕ
number_at i d = option_and_then whole_number (at i d)

-- the text at an index of an array
abbrev pub text_at : ℕ → Data → Option (List ℕ)
text_at i d = option_and_then as_str (at i d)

-- ---- keys

abbrev pub value_of_key : Field → Data → Result Data TextFault
value_of_key f d = value_or (Missing f) (get (name_of f) d)

unfoldable pub number_of_key : Field → ℕ → ℕ → Data → Result ℕ TextFault
number_of_key f low high d = do
  value ← value_of_key f d
  number_within f low high (whole_number value)

-- the elements of an array that has at most this many
unfoldable pub elements_within : Field → ℕ → Data → Result Items TextFault
elements_within f most d = do
  ds ← value_or (Range f) (as_array d)
  if nat_le (items_len ds) most then Ok ds else Err (Range f)

unfoldable pub elements_of_key : Field → ℕ → Data → Result Items TextFault
elements_of_key f most d = do
  value ← value_of_key f d
  elements_within f most value

-- ---- elements one after the other

-- each element in order, read with a number that each element moves on; the first fault is the result
unfoldable pub running_from : {A : Type 0} → (ℕ → Data → Result A TextFault) → (ℕ → A → ℕ) → ℕ → Items → Result (List A) TextFault
running_from f next i no_items = Ok []
running_from f next i (item d ds) = do
  x ← f i d
  xs ← running_from f next (next i x) ds
  Ok (x ∷ xs)

-- the number after the one of this element
abbrev pub next_index : {A : Type 0} → ℕ → A → ℕ
next_index i x = i + 1

-- the number is an index, which begins at i
abbrev pub each_from : {A : Type 0} → (ℕ → Data → Result A TextFault) → ℕ → Items → Result (List A) TextFault
each_from f i ds = running_from f next_index i ds
