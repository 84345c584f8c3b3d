-- What a reader returns depends on the keys of its format only.
use Rattle.std.proofs.Common.{◌≡◌, ℕ, Bool, true, false, List, [], ◌∷◌, codes, Option, Some, None, Result, Ok, Err, refl, sym, option_and_then, unwrap_or, if◌then◌else◌}
use Rattle.std.specs.Str.{bytes_eq}
use Rattle.serde_json.specs.Data.{Data}
use Rattle.serde_json.specs.Find.{get, as_str}
use Rattle.fak_text.specs.Fields.{name_of}
use Rattle.fak_text.specs.Gives.{◌>>=◌}
use Rattle.fak_text.specs.Values.{value_or, number_of_key, elements_of_key}
use Rattle.fak_text.specs.HistoryText.{history_from}
use Rattle.fak_text.specs.ScheduleText.{object_named, object_from, schedule_from}
use Rattle.fak_text.specs.ScriptText.{numbers_of_key, stint_of_key, script_from}
use Rattle.fak_text.specs.StepText.{programs_of_key}
use Rattle.fak_text.specs.declared.fault.Field.{Field}
use Rattle.fak_text.specs.declared.fault.Field.TheVariants as fields
use Rattle.fak_text.specs.declared.fault.TextFault.{TextFault}
use Rattle.fak_text.specs.declared.fault.TextFault.TheVariants.{Range}
use Rattle.fak_text.specs.declared.schedule.Object as o
use Rattle.fak_text.specs.declared.schedule.Object.TheVariants as objects
use Rattle.fak_places.specs.Keys.{AgreeAt, ReadsOnlyKeys, keys_of_object}
use Rattle.fak_places.specs.declared.fault_place.Format.TheVariants as formats

pub of_histories : ReadsOnlyKeys formats.History history_from
unfolding history_from number_of_key elements_of_key
of_histories d e same = rw (same.0, same.1.0) refl

pub of_scripts : ReadsOnlyKeys formats.Script script_from
unfolding script_from number_of_key stint_of_key numbers_of_key elements_of_key programs_of_key
of_scripts d e same =
    rw (same.0, same.1.0, same.1.1.0, same.1.1.1.0, same.1.1.1.1.0, same.1.1.1.1.1.0, same.1.1.1.1.1.1.0, same.1.1.1.1.1.1.1.0, same.1.1.1.1.1.1.1.1.0) refl

-- ---- schedules, whose object names a key

-- the keys of a schedule of a room, of a queue or of an unknown object
abbrev keys_by : Bool → Bool → List Field
keys_by room queue =
    if room then fields.Object ∷ fields.Bound ∷ fields.Seats ∷ fields.Events ∷ [] else (
    if queue then fields.Object ∷ fields.Size ∷ fields.Seats ∷ fields.Events ∷ [] else
    fields.Object ∷ fields.Bound ∷ fields.Size ∷ fields.Seats ∷ fields.Events ∷ [])

abbrev object_by : Bool → Bool → Data → Result o.Object TextFault
object_by room queue d =
    if room then (number_of_key fields.Bound 0 4294967296 d >>= λ bound. Ok (objects.Room bound)) else (
    if queue then (number_of_key fields.Size 1 4096 d >>= λ size. Ok (objects.Queue size)) else
    Err (Range fields.Object))

same_by : (room queue : Bool) (d e : Data) → AgreeAt (keys_by room queue) d e → object_by room queue d ≡ object_by room queue e
unfolding number_of_key
same_by true queue d e same = rw same.1.0 refl
same_by false true d e same = rw same.1.0 refl
same_by false false d e same = refl

-- the keys of each schedule
abbrev AgreeOnEach : Data → Data → Type 0
AgreeOnEach d e =
    (get (name_of fields.Object) d ≡ get (name_of fields.Object) e) × (get (name_of fields.Seats) d ≡ get (name_of fields.Seats) e)
    × (get (name_of fields.Events) d ≡ get (name_of fields.Events) e)

each_by : (room queue : Bool) (d e : Data) → AgreeAt (keys_by room queue) d e → AgreeOnEach d e
each_by true queue d e same = (same.0, same.1.1.0, same.1.1.1.0)
each_by false true d e same = (same.0, same.1.1.0, same.1.1.1.0)
each_by false false d e same = (same.0, same.1.1.1.0, same.1.1.1.1.0)

same_named : (name : List ℕ) (d e : Data) → AgreeAt (keys_of_object name) d e → object_named name d ≡ object_named name e
unfolding keys_of_object object_named
same_named name d e same = same_by (bytes_eq name (codes "room")) (bytes_eq name (codes "queue")) d e same

each_named : (name : List ℕ) (d e : Data) → AgreeAt (keys_of_object name) d e → AgreeOnEach d e
unfolding keys_of_object
each_named name d e same = each_by (bytes_eq name (codes "room")) (bytes_eq name (codes "queue")) d e same

same_text : (text : Option (List ℕ)) (d e : Data) → AgreeAt (keys_of_object (unwrap_or text [])) d e
    → (value_or (Range fields.Object) text >>= λ name. object_named name d) ≡ (value_or (Range fields.Object) text >>= λ name. object_named name e)
same_text None d e same = refl
same_text (Some name) d e same = same_named name d e same

same_object : (value : Option Data) (d e : Data) → get (name_of fields.Object) d ≡ value → get (name_of fields.Object) e ≡ value
    → AgreeAt (keys_of_object (unwrap_or (option_and_then as_str value) [])) d e → object_from d ≡ object_from e
unfolding object_from
same_object None d e first second same = rw (first, second) refl
same_object (Some value) d e first second same = rw (first, second) (same_text (as_str value) d e same)

pub of_schedules : ReadsOnlyKeys formats.Schedule schedule_from
unfolding schedule_from number_of_key elements_of_key
of_schedules d e same =
    let each = each_named (unwrap_or (option_and_then as_str (get (name_of fields.Object) d)) []) d e same in
    let object : object_from d ≡ object_from e = same_object (get (name_of fields.Object) d) d e refl (sym each.0) same in
    rw (object, each.1, each.2) refl
