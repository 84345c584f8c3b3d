-- The first wrong value of a list is the first wrong one of what the values represent.
use Rattle.std.proofs.Common.{◌≡◌, ◌∙◌, ℕ, ◌+◌, Bool, false, cond, not, nat_lt, is_ok, List, [], ◌∷◌, map, slice_get, slice_index_or, Option, Some, None, Ok, IfSome, option_map, refl, ap, sym, subst}
use Rattle.std.specs.List.{position, prefix_len}
use Rattle.std.proofs.lemmas.List.{length-map}
use Rattle.std.proofs.lemmas.List.Quantifiers.{position-Some}
use Rattle.std.proofs.lemmas.Option.{slice_get-map, slice_get-get_or}
use Rattle.serde_json.specs.Data.{Data, Items}
use Rattle.serde_json.specs.View.{view, items_view}
use Rattle.serde_json.specs.declared.value.Value.{Value}
use Rattle.fak_text.specs.StepText.{most_steps}
use Rattle.fak_text.specs.Values.{elements_within}
use Rattle.fak_text.specs.ScriptText.{number_from}
use Rattle.fak_text.specs.declared.fault.Field.TheVariants.{Programs, Slots, Start}
use Rattle.fak_text.specs.declared.fault.Field.TheVariants as fields
use Rattle.serde_json.specs.Events.{items_len}
use Rattle.fak_places.specs.Named.{program_in, step_in}
use Rattle.fak_places.specs.Spots.{IsInFirst, IsInFirstProgram, IsInFirstStep, IsInProgram, IsInStart, array_of, number_of, spot_in_item, spot_in_step}
use Rattle.fak_places.specs.declared.asked.Hint.{Hint}
use Rattle.fak_places.specs.declared.asked.Spot.{Spot}
use Rattle.fak_places.specs.declared.asked.Spot.TheVariants.{One}
use Rattle.fak_places.specs.declared.step.Limits.{Limits}

passes_alike : (passes : Data → Bool) (values : List Value) → prefix_len passes (map view values) ≡ prefix_len (λ v. passes (view v)) values
passes_alike passes [] = refl
passes_alike passes (v ∷ values) = ap (λ (n : ℕ). cond (passes (view v)) (1 + n) 0) (passes_alike passes values)

pub found_alike : (wrong : Data → Bool) (values : List Value) → position wrong (map view values) ≡ position (λ v. wrong (view v)) values
found_alike wrong values = rw (passes_alike (λ d. not (wrong d)) values, length-map values view) refl

pub in_first : (wrong : Data → Bool) (values : List Value) (items : Items) (index : ℕ) (element : Option ℕ) (spot : Spot) → items_view values ≡ items
    → position (λ v. wrong (view v)) values ≡ Some index → spot ≡ spot_in_item index element → IsInFirst wrong items spot
in_first wrong values items index element spot are first is = record {
  elements = map view values;
  are = are;
  index = index;
  first = found_alike wrong values ∙ first;
  element = element;
  spot_is = is;
}

pub in_first_step : (wrong : Data → Bool) (program : ℕ) (values : List Value) (items : Items) (index : ℕ) (element : Option ℕ) (spot : Spot) → items_view values ≡ items
    → position (λ v. wrong (view v)) values ≡ Some index → spot ≡ spot_in_step program index element → IsInFirstStep wrong program items spot
in_first_step wrong program values items index element spot are first is = record {
  elements = map view values;
  are = are;
  index = index;
  first = found_alike wrong values ∙ first;
  element = element;
  spot_is = is;
}

seen : (values : List Value) (index : ℕ) (value : Value) → slice_get values index ≡ Some value → slice_get (map view values) index ≡ Some (view value)
seen values index value at = slice_get-map view values index ∙ ap (option_map view) at

-- the element at the first index is the one that was read there
pub got : {X : Type 0} (wrong : X → Bool) (xs : List X) (index : ℕ) (x : X) → position wrong xs ≡ Some index → x ≡ slice_index_or xs index x → slice_get xs index ≡ Some x
got wrong xs index x first read = slice_get-get_or xs index x (position-Some wrong xs index x first).0 ∙ ap Some (sym read)

pub in_first_program : (limits : Limits) (values : List Value) (programs : Items) (index : ℕ) (program : Value) (spot : Spot) → items_view values ≡ programs
    → position (λ v. not (is_ok (program_in limits (view v)))) values ≡ Some index → slice_get values index ≡ Some program → IsInProgram limits index (view program) spot
    → IsInFirstProgram limits programs spot
in_first_program limits values programs index program spot are first at spot_in = record {
  elements = map view values;
  are = are;
  index = index;
  first = found_alike (λ d. not (is_ok (program_in limits d))) values ∙ first;
  program = view program;
  is = seen values index program at;
  spot_in = spot_in;
}

-- the spot is in a program of these steps
pub in_program : (limits : Limits) (index : ℕ) (program : Data) (values : List Value) (step : ℕ) (element : Option ℕ) (spot : Spot)
    → elements_within Programs most_steps program ≡ Ok (items_view values) → position (λ v. not (is_ok (step_in limits (view v)))) values ≡ Some step
    → spot ≡ spot_in_step index step element → IsInProgram limits index program spot
in_program limits index program values step element spot few first is =
    rw few (in_first_step (λ d. not (is_ok (step_in limits d))) index values (items_view values) step element spot refl first is)

-- the hint that was made in the first wrong program
pub in_programs : (hinted : Option Hint) (limits made : Limits) (values : List Value) (programs : Items) (index : ℕ) (program : Value) → made ≡ limits → items_view values ≡ programs
    → position (λ v. not (is_ok (program_in made (view v)))) values ≡ Some index → slice_get values index ≡ Some program
    → IfSome hinted (λ hint. IsInProgram made index (view program) hint.spot) → IfSome hinted (λ hint. IsInFirstProgram limits programs hint.spot)
in_programs None limits made values programs index program same are first at spot_in = tt
in_programs (Some hint) limits made values programs index program same are first at spot_in =
    subst (λ (l : Limits). IsInFirstProgram l programs hint.spot) same (in_first_program made values programs index program hint.spot are first at spot_in)

-- ---- the first processes' programs

-- there are no more of them than slots, and one is no program's number
pub in_start : (script : Data) (slots programs : ℕ) (values : List Value) (index : ℕ) → slots ≡ number_of Slots script → programs ≡ items_len (array_of fields.Programs script)
    → items_view values ≡ array_of Start script → nat_lt slots (items_len (items_view values)) ≡ false
    → position (λ v. not (is_ok (number_from Start programs 0 (view v)))) values ≡ Some index → IsInStart script (One index)
in_start script slots programs values index slots_are programs_are are few first =
    let within : nat_lt (number_of Slots script) (items_len (array_of Start script)) ≡ false = rw (← slots_are, ← are) few in
    let numbered : position (λ v. not (is_ok (number_from Start (items_len (array_of fields.Programs script)) 0 (view v)))) values ≡ Some index = rw (← programs_are) first in
    rw within (in_first (λ d. not (is_ok (number_from Start (items_len (array_of fields.Programs script)) 0 d))) values (array_of Start script) index None (One index) are numbered refl)
