-- The keys of a format that occur more than once in an input.
use Rattle.std.specs.Prelude.{ℕ, List, [], ◌∷◌, length, nat_lt, Option, Some, Result, Ok, Err}
use Rattle.std.specs.List.{filter}
use Rattle.std.specs.Str.{bytes_eq}
use Rattle.json.specs.Json.{Json, Members, no_members, member, document}
use Rattle.json.specs.Json as json
use Rattle.serde_json.specs.Data.{Data}
use Rattle.serde_json.specs.Find.{as_object}
use Rattle.fak_text.specs.Fields.{name_of}
use Rattle.fak_text.specs.Gives.{◌>>=◌}
use Rattle.fak_text.specs.Values.{input_in, value_or}
use Rattle.fak_text.specs.declared.fault.Field.{Field}
use Rattle.fak_text.specs.declared.fault.Field.TheVariants.{Input}
use Rattle.fak_text.specs.declared.fault.TextFault.{TextFault}
use Rattle.fak_text.specs.declared.fault.TextFault.TheVariants.{Range}
use Rattle.fak_places.specs.Keys.{keys_of}
use Rattle.fak_places.specs.declared.fault_place.Format.{Format}

-- the names of the members of an object as they are written, in their order
abbrev pub member_names : Members → List (List ℕ)
member_names no_members = []
member_names (member name j ms) = name ∷ member_names ms

-- how many members have this name
abbrev pub times : List ℕ → Members → ℕ
times name members = length (filter (λ other. bytes_eq other name) (member_names members))

-- the keys that more than one member has
abbrev pub repeated_among : List Field → Members → List Field
repeated_among keys members = filter (λ key. nat_lt 1 (times (name_of key) members)) keys

-- the same of the value that a text is, none if it is no object
abbrev pub repeated_in_value : List Field → Option Json → List Field
repeated_in_value keys (Some (json.object members)) = repeated_among keys members
repeated_in_value keys _ = []

abbrev pub repeated_of : List Field → List ℕ → List Field
repeated_of keys text = repeated_in_value keys (document text)

abbrev pub repeated_if_read : Format → List ℕ → Result Data TextFault → List Field
repeated_if_read format text (Ok d) = repeated_of (keys_of format d) text
repeated_if_read format text (Err fault) = []

-- the same of a text whose value this is
abbrev pub repeated_in_data : Format → List ℕ → Data → List Field
repeated_in_data format text d = repeated_if_read format text (value_or (Range Input) (as_object d) >>= λ members. Ok d)

-- the keys of its format that occur more than once in an input; none if it is no object that can be read
abbrev pub repeated_in : Format → List ℕ → List Field
repeated_in format text = repeated_if_read format text (input_in text)
