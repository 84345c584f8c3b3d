-- The keys that a format has, and the keys of an input that its format ignores.
use Rattle.std.specs.Prelude.{◌≡◌, ℕ, List, [], ◌∷◌, Bool, not, codes, Result, Ok, Err, option_and_then, unwrap_or, if◌then◌else◌}
use Rattle.std.specs.List.{AllByRecursion, filter, list_any}
use Rattle.std.specs.Str.{bytes_eq}
use Rattle.serde_json.specs.Data.{Data, Members, no_members, member}
use Rattle.serde_json.specs.Find.{get, as_str, as_object}
use Rattle.fak_text.specs.Fields.{name_of}
use Rattle.fak_text.specs.Values.{input_in}
use Rattle.fak_text.specs.declared.fault.Field.{Field}
use Rattle.fak_text.specs.declared.fault.Field.TheVariants as fields
use Rattle.fak_text.specs.declared.fault.TextFault.{TextFault}
use Rattle.fak_places.specs.declared.fault_place.Format.{Format}
use Rattle.fak_places.specs.declared.fault_place.Format.TheVariants as formats

-- the keys of a schedule whose object has this name: a room has a bound, and a queue a size; if no object has it, both are keys
unfoldable pub keys_of_object : List ℕ → List Field
keys_of_object name =
    if bytes_eq name (codes "room") then fields.Object ∷ fields.Bound ∷ fields.Seats ∷ fields.Events ∷ [] else (
    if bytes_eq name (codes "queue") then fields.Object ∷ fields.Size ∷ fields.Seats ∷ fields.Events ∷ [] else
    fields.Object ∷ fields.Bound ∷ fields.Size ∷ fields.Seats ∷ fields.Events ∷ [])

-- the keys that an input of this format has
abbrev pub keys_of : Format → Data → List Field
keys_of formats.Schedule d = keys_of_object (unwrap_or (option_and_then as_str (get (name_of fields.Object) d)) [])
keys_of formats.History d = fields.Size ∷ fields.Marks ∷ []
keys_of formats.Script d =
    fields.Version ∷ fields.Slots ∷ fields.Births ∷ fields.Quantum ∷ fields.Stint ∷ fields.Semaphores ∷ fields.Files ∷ fields.Programs
    ∷ fields.Start ∷ []

-- whether one of these keys has this name
abbrev pub is_named : List Field → List ℕ → Bool
is_named keys name = list_any (λ key. bytes_eq (name_of key) name) keys

-- the names of members, in their order
abbrev pub names_of : Members → List (List ℕ)
names_of no_members = []
names_of (member name d ms) = name ∷ names_of ms

-- the names of members that none of these keys has
abbrev pub other_names : List Field → Members → List (List ℕ)
other_names keys members = filter (λ name. not (is_named keys name)) (names_of members)

-- the keys of a value that its format ignores
abbrev pub ignored_of : Format → Data → List (List ℕ)
ignored_of format d = other_names (keys_of format d) (unwrap_or (as_object d) no_members)

abbrev pub ignored_if_read : Format → Result Data TextFault → List (List ℕ)
ignored_if_read format (Ok d) = ignored_of format d
ignored_if_read format (Err fault) = []

-- the keys of an input that its format ignores, in the order of their bytes; none if the input is no object
abbrev pub ignored_in : Format → List ℕ → List (List ℕ)
ignored_in format bytes = ignored_if_read format (input_in bytes)

-- ---- why no other key has an effect

-- the two values have the same at each of these keys
abbrev pub AgreeAt : List Field → Data → Data → Type 0
AgreeAt keys d e = AllByRecursion (λ key. get (name_of key) d ≡ get (name_of key) e) keys

-- what a reader returns depends on the keys of its format only
abbrev pub ReadsOnlyKeys : {A : Type 0} → Format → (Data → Result A TextFault) → Type 0
ReadsOnlyKeys format reads = (d e : Data) → AgreeAt (keys_of format d) d e → reads d ≡ reads e
