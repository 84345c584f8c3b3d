-- The place of the first wrong value in a key's array.
use Rattle.std.specs.Prelude.{◌≡◌, ℕ, Bool, List, [], ◌∷◌, Option, Some, None, MatchResult, is_ok, not, nat_eq, nat_lt, slice_get, unwrap_or, option_and_then}
use Rattle.std.specs.Bool.{MatchBool}
use Rattle.std.specs.List.{position, starts_with}
use Rattle.serde_json.specs.Data.{Data, Items, no_items}
use Rattle.serde_json.specs.Events.{items_len}
use Rattle.serde_json.specs.Find.{get, as_array}
use Rattle.serde_json.specs.View.{items_of}
use Rattle.fak_text.specs.Fields.{name_of}
use Rattle.fak_text.specs.ScriptText.{number_from}
use Rattle.fak_text.specs.StepText.{most_steps}
use Rattle.fak_text.specs.Values.{elements_within, whole_number}
use Rattle.fak_text.specs.declared.fault.Field.{Field}
use Rattle.fak_text.specs.declared.fault.Field.TheVariants.{Programs, Semaphores, Slots, Start, Version}
use Rattle.fak_places.specs.Named.{program_in, step_in}
use Rattle.fak_places.specs.declared.step.Limits.{Limits}
use Rattle.fak_places.specs.declared.asked.Absent.{Absent}
use Rattle.fak_places.specs.declared.asked.Asked.TheVariants.{Present}
use Rattle.fak_places.specs.declared.asked.Spot.{Spot}
use Rattle.fak_places.specs.declared.asked.Spot.TheVariants.{Key, One, Two, Three}
use Rattle.fak_places.specs.declared.asked.Wrong.{Wrong}

-- the elements of the array of a key; none if it is no array
abbrev pub array_of : Field → Data → Items
array_of f d = unwrap_or (option_and_then as_array (get (name_of f) d)) no_items

-- the whole number of a key; 0 if it has none
abbrev pub number_of : Field → Data → ℕ
number_of f d = unwrap_or (option_and_then whole_number (get (name_of f) d)) 0

-- what is wrong with an element that names what its script does not have
abbrev pub absent_at : ℕ → Absent → Wrong
absent_at index absent = record { element = Some index; asked = Present absent }

-- whether a text begins with a byte order mark
abbrev pub begins_with_byte_order_mark : List ℕ → Bool
begins_with_byte_order_mark bytes = starts_with nat_eq bytes (239 ∷ 187 ∷ 191 ∷ [])

-- the spot of an item, or of one of its elements
abbrev pub spot_in_item : ℕ → Option ℕ → Spot
spot_in_item i None = One i
spot_in_item i (Some j) = Two i j

-- the spot of a step of a program, or of one of its elements
abbrev pub spot_in_step : ℕ → ℕ → Option ℕ → Spot
spot_in_step program i None = Two program i
spot_in_step program i (Some j) = Three program i j

-- the spot is in the first of these items that is wrong
pub record IsInFirst (wrong : Data → Bool) (items : Items) (spot : Spot) : Type 0 where
  pub elements : List Data
  pub are : items_of elements ≡ items
  pub index : ℕ
  pub first : position wrong elements ≡ Some index
  pub element : Option ℕ
  pub spot_is : spot ≡ spot_in_item index element

-- the spot is in the first wrong one of the steps of this program
pub record IsInFirstStep (wrong : Data → Bool) (program : ℕ) (steps : Items) (spot : Spot) : Type 0 where
  pub elements : List Data
  pub are : items_of elements ≡ steps
  pub index : ℕ
  pub first : position wrong elements ≡ Some index
  pub element : Option ℕ
  pub spot_is : spot ≡ spot_in_step program index element

-- what the steps of a script may name
abbrev pub limits_in : Data → Limits
limits_in script = record {
  version = number_of Version script;
  semaphores = items_len (array_of Semaphores script);
  programs = items_len (array_of Programs script);
}

-- the spot is in this program: all of it if it is no array of at most 1,000 steps, and else in its first wrong step
abbrev pub IsInProgram : Limits → ℕ → Data → Spot → Type 0
IsInProgram limits index program spot =
    MatchResult (elements_within Programs most_steps program) (λ steps. IsInFirstStep (λ d. not (is_ok (step_in limits d))) index steps spot)
    (λ fault. spot ≡ One index)

-- the spot is in the first of these programs that is wrong
pub record IsInFirstProgram (limits : Limits) (programs : Items) (spot : Spot) : Type 0 where
  pub elements : List Data
  pub are : items_of elements ≡ programs
  pub index : ℕ
  pub first : position (λ d. not (is_ok (program_in limits d))) elements ≡ Some index
  pub program : Data
  pub is : slice_get elements index ≡ Some program
  pub spot_in : IsInProgram limits index program spot

-- the spot is in the first processes' programs: all of them if there are more than slots, and else the first that is no program's number
abbrev pub IsInStart : Data → Spot → Type 0
IsInStart script spot =
    MatchBool (nat_lt (number_of Slots script) (items_len (array_of Start script))) (spot ≡ Key)
    (IsInFirst (λ d. not (is_ok (number_from Start (items_len (array_of Programs script)) 0 d))) (array_of Start script) spot)
