-- The events that an object has depend on its kind only, which its name gives.
use Rattle.std.proofs.Common.{◌≡◌, ℕ, Bool, true, false, List, [], codes, Option, Some, None, Result, Ok, Err, sym, subst, is_ok, not, option_and_then, unwrap_or, if◌then◌else◌}
use Rattle.std.specs.List.{position}
use Rattle.std.specs.Str.{bytes_eq}
use Rattle.serde_json.specs.Data.{Data}
use Rattle.serde_json.specs.Find.{get, as_str}
use Rattle.serde_json.specs.View.{view}
use Rattle.serde_json.specs.declared.value.Value.{Value}
use Rattle.fak_text.specs.Fields.{name_of}
use Rattle.fak_text.specs.Gives.{◌>>=◌}
use Rattle.fak_text.specs.ScheduleText.{event_from, object_from, object_named}
use Rattle.fak_text.specs.Values.{number_of_key, value_or}
use Rattle.fak_text.specs.declared.fault.Field.TheVariants as fields
use Rattle.fak_text.specs.declared.fault.TextFault.{TextFault}
use Rattle.fak_text.specs.declared.fault.TextFault.TheVariants.{Missing, Range}
use Rattle.fak_text.specs.declared.schedule.Object as o
use Rattle.fak_text.specs.declared.schedule.Object.TheVariants as objects
use Rattle.fak_places.specs.Named.{object_name, object_of_name}

-- two objects of one kind
abbrev AreAlike : o.Object → o.Object → Type 0
AreAlike (objects.Room b) (objects.Room c) = Unit {0}
AreAlike (objects.Room b) (objects.Queue n) = ⊥
AreAlike (objects.Queue n) (objects.Room b) = ⊥
AreAlike (objects.Queue n) (objects.Queue m) = Unit {0}

room_alike : (bound : Result ℕ TextFault) (object : o.Object) → (bound >>= λ b. Ok (objects.Room b)) ≡ Ok object → AreAlike object (objects.Room 0)
room_alike (Ok b) object is =
    let same : objects.Room b ≡ object = cc in
    subst (λ (x : o.Object). AreAlike x (objects.Room 0)) same tt
room_alike (Err e) object is = absurd (cc)

queue_alike : (size : Result ℕ TextFault) (object : o.Object) → (size >>= λ n. Ok (objects.Queue n)) ≡ Ok object → AreAlike object (objects.Queue 1)
queue_alike (Ok n) object is =
    let same : objects.Queue n ≡ object = cc in
    subst (λ (x : o.Object). AreAlike x (objects.Queue 1)) same tt
queue_alike (Err e) object is = absurd (cc)

alike_by : (room queue : Bool) (bound size : Result ℕ TextFault) (object : o.Object)
    → (if room then (bound >>= λ b. Ok (objects.Room b)) else (if queue then (size >>= λ n. Ok (objects.Queue n)) else Err (Range fields.Object))) ≡ Ok object
    → AreAlike object (if room then objects.Room 0 else objects.Queue 1)
alike_by true queue bound size object is = room_alike bound object is
alike_by false true bound size object is = queue_alike size object is
alike_by false false bound size object is = absurd (cc)

alike_named : (name : List ℕ) (d : Data) (object : o.Object) → object_named name d ≡ Ok object → AreAlike object (object_of_name name)
unfolding object_named object_of_name
alike_named name d object is =
    alike_by (bytes_eq name (codes "room")) (bytes_eq name (codes "queue")) (number_of_key fields.Bound 0 4294967296 d) (number_of_key fields.Size 1 4096 d) object is

alike_text : (text : Option (List ℕ)) (d : Data) (object : o.Object) → (value_or (Range fields.Object) text >>= λ name. object_named name d) ≡ Ok object
    → AreAlike object (object_of_name (unwrap_or text []))
alike_text None d object is = absurd (cc)
alike_text (Some name) d object is = alike_named name d object is

alike_value : (value : Option Data) (d : Data) (object : o.Object)
    → (value_or (Missing fields.Object) value >>= λ v. value_or (Range fields.Object) (as_str v) >>= λ name. object_named name d) ≡ Ok object
    → AreAlike object (object_of_name (unwrap_or (option_and_then as_str value) []))
alike_value None d object is = absurd (cc)
alike_value (Some value) d object is = alike_text (as_str value) d object is

alike : (d : Data) (object : o.Object) → object_from d ≡ Ok object → AreAlike object (object_of_name (object_name d))
unfolding object_from
alike d object is = alike_value (get (name_of fields.Object) d) d object is

first_alike : (object made : o.Object) (values : List Value) (index : ℕ) → AreAlike object made
    → position (λ v. not (is_ok (event_from made 0 (view v)))) values ≡ Some index → position (λ v. not (is_ok (event_from object 0 (view v)))) values ≡ Some index
unfolding event_from
first_alike (objects.Room b) (objects.Room c) values index same first = first
first_alike (objects.Room b) (objects.Queue n) values index same first = absurd same
first_alike (objects.Queue n) (objects.Room b) values index same first = absurd same
first_alike (objects.Queue n) (objects.Queue m) values index same first = first

-- the first event that is wrong for an object of the schedule's name is the first that is wrong for the schedule's object
pub first_of_object : (d : Data) (object made : o.Object) (values : List Value) (index : ℕ) → object_from d ≡ Ok object → made ≡ object_of_name (object_name d)
    → position (λ v. not (is_ok (event_from made 0 (view v)))) values ≡ Some index → position (λ v. not (is_ok (event_from object 0 (view v)))) values ≡ Some index
first_of_object d object made values index is named first =
    first_alike object made values index (subst (λ (x : o.Object). AreAlike object x) (sym named) (alike d object is)) first
