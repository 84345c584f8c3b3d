-- The schedules that are read are in range.
use Rattle.std.proofs.lemmas.Grind.{common_steps}
use Rattle.std.proofs.lemmas.List.Elements.{All-weaker}
use Rattle.fak_core.specs.declared.call.RoomCall.TheVariants as room_calls
use Rattle.fak_core.specs.declared.call.QueueCall.TheVariants as queue_calls
use Rattle.fak_text.proofs.Common.{◌>>=◌, ◌≡◌, ℕ, ◌≤◌, ◌==◌, Bool, true, false, List, codes, Option, Some, Ok, Err, subst, if◌then◌else◌, arith, All, bytes_eq, Data, items_len, as_array, as_str, Range}
use Rattle.fak_text.specs.ScheduleText.{ScheduleOf, room_op, queue_op, op_named, third, third_within, steps_act, most_amount, act_from, event_from, object_named, object_from, most_events, schedule_from, schedule_in, IsObjectInRange, IsActInRange, IsActOf, IsScheduleInRange}
use Rattle.fak_text.specs.Values.{value_or, input_in, number_within, number_at, text_at, value_of_key, number_of_key, elements_of_key, each_from, next_index}
use Rattle.fak_text.specs.declared.fault.Field.TheVariants as fields
use Rattle.fak_text.specs.declared.reading.schedule.Op.{Op}
use Rattle.fak_text.specs.declared.reading.schedule.Op.TheVariants as ops
use Rattle.fak_text.specs.declared.schedule.Act.{Act}
use Rattle.fak_text.specs.declared.schedule.Act.TheVariants as acts
use Rattle.fak_text.specs.declared.schedule.Event.{Event}
use Rattle.fak_text.specs.declared.schedule.Object as o
use Rattle.fak_text.specs.declared.schedule.Object.TheVariants as objects
use Rattle.fak_text.proofs.ReadRange.{parts_of, within_is_within, number_of_key_is_within, elements_of_key_are_few, All-running_from, length-running_from, either_way, made_of}

-- the operations of an object
IsOpOf : o.Object → Op → Type 0
IsOpOf object ops.Step = Unit {0}
IsOpOf (objects.Room bound) ops.Tir = Unit {0}
IsOpOf (objects.Room bound) ops.Release = Unit {0}
IsOpOf (objects.Queue size) ops.Insert = Unit {0}
IsOpOf (objects.Queue size) ops.Delete = Unit {0}
IsOpOf (objects.Queue size) ops.Shut = Unit {0}
IsOpOf _ _ = ⊥

-- an operation that is named by one test after another
named : (P : Op → Type 0) (b : Bool) (x op : Op) (rest : Option Op) → P x → (rest ≡ Some op → P op) → (if b then Some x else rest) ≡ Some op → P op
named P true x op rest holds later e = grind (arith, common_steps)
named P false x op rest holds later e = later e

room_op_is_of_rooms : (bound : ℕ) (name : List ℕ) (op : Op) → room_op name ≡ Some op → IsOpOf (objects.Room bound) op
unfolding room_op IsOpOf
room_op_is_of_rooms bound name op e = grind (arith, common_steps, named, bytes_eq, codes)

queue_op_is_of_queues : (size : ℕ) (name : List ℕ) (op : Op) → queue_op name ≡ Some op → IsOpOf (objects.Queue size) op
unfolding queue_op IsOpOf
queue_op_is_of_queues size name op e = grind (arith, common_steps, named, bytes_eq, codes)

op_is_of_object : (object : o.Object) (name : List ℕ) (op : Op) → op_named object name ≡ Some op → IsOpOf object op
op_is_of_object (objects.Room bound) name op e = room_op_is_of_rooms bound name op e
op_is_of_object (objects.Queue size) name op e = queue_op_is_of_queues size name op e

-- what an act has to keep to
Keeps : o.Object → Act → Type 0
Keeps object act = IsActInRange act × IsActOf object act

third_is_within : (low high size : ℕ) (number : Option ℕ) (n : ℕ) → third_within low high size number ≡ Ok n → (low ≤ n) × (n ≤ high)
third_is_within low high size number n e =
    either_way (λ k. (low ≤ k) × (k ≤ high)) (size == 3) (number_within fields.Events low high number) (Err (Range fields.Events)) n (within_is_within fields.Events low high number n) (λ h. absurd (cc)) e

steps_keep : (object : o.Object) (size : ℕ) (number : Option ℕ) (act : Act) → steps_act size number ≡ Ok act → Keeps object act
unfolding steps_act Keeps
steps_keep object size number act e = grind (arith, common_steps, either_way, third_within, made_of, third_is_within)

act_keeps : (object : o.Object) (op : Op) (size : ℕ) (number : Option ℕ) (act : Act) → IsOpOf object op → act_from op size number ≡ Ok act → Keeps object act
unfolding Keeps IsOpOf
act_keeps object ops.Step size number act of_object e = steps_keep object size number act e
act_keeps (objects.Room bound) ops.Tir size number act of_object e =
    made_of (λ (a : Act). IsActInRange a × IsActOf (objects.Room bound) a) (third_within 1 most_amount size number) (λ d. acts.Room (room_calls.Tir d)) act (λ d read. (third_is_within 1 most_amount size number d read, tt)) e
act_keeps (objects.Room bound) ops.Release size number act of_object e =
    made_of (λ (a : Act). IsActInRange a × IsActOf (objects.Room bound) a) (third_within 1 most_amount size number) (λ d. acts.Room (room_calls.Release d)) act (λ d read. (third_is_within 1 most_amount size number d read, tt)) e
act_keeps (objects.Queue n) ops.Insert size number act of_object e =
    made_of (λ (a : Act). IsActInRange a × IsActOf (objects.Queue n) a) (third size number) (λ x. acts.Queue (queue_calls.Insert x)) act (λ x read. (tt, tt)) e
act_keeps (objects.Queue n) ops.Delete size number act of_object e = grind (arith, common_steps, either_way)
act_keeps (objects.Queue n) ops.Shut size number act of_object e = grind (arith, common_steps, either_way)
act_keeps (objects.Room bound) ops.Insert size number act of_object e = absurd of_object
act_keeps (objects.Room bound) ops.Delete size number act of_object e = absurd of_object
act_keeps (objects.Room bound) ops.Shut size number act of_object e = absurd of_object
act_keeps (objects.Queue n) ops.Tir size number act of_object e = absurd of_object
act_keeps (objects.Queue n) ops.Release size number act of_object e = absurd of_object

event_keeps : (object : o.Object) (i : ℕ) (d : Data) (event : Event) → event_from object i d ≡ Ok event → Keeps object event.act
unfolding event_from
event_keeps object i d event e = grind (arith, common_steps, parts_of, value_or, as_array, number_at, text_at, op_named, act_from, items_len, act_keeps, op_is_of_object)

object_is_in_range : (d : Data) (object : o.Object) → object_from d ≡ Ok object → IsObjectInRange object
unfolding object_from object_named
object_is_in_range d object e =
    let found = parts_of (value_of_key fields.Object d) _ object e in
    let name = parts_of (value_or _ (as_str found.0)) (λ n. object_named n d) object found.2 in
    either_way IsObjectInRange (bytes_eq name.0 (codes "room")) (number_of_key fields.Bound 0 4294967296 d >>= λ bound. Ok (objects.Room bound)) _ object
    (made_of IsObjectInRange (number_of_key fields.Bound 0 4294967296 d) (λ bound. objects.Room bound) object (λ bound read. (number_of_key_is_within fields.Bound 0 4294967296 d bound read).1))
    (either_way IsObjectInRange (bytes_eq name.0 (codes "queue")) (number_of_key fields.Size 1 4096 d >>= λ size. Ok (objects.Queue size)) (Err (Range fields.Object)) object
    (made_of IsObjectInRange (number_of_key fields.Size 1 4096 d) (λ size. objects.Queue size) object (λ size read. number_of_key_is_within fields.Size 1 4096 d size read))
    (λ h. absurd (cc))) name.2

pub schedule_is_in_range : (bytes : List ℕ) (schedule : ScheduleOf) → schedule_in bytes ≡ Ok schedule → IsScheduleInRange schedule
unfolding schedule_from Keeps
schedule_is_in_range bytes schedule e =
    let input = parts_of (input_in bytes) schedule_from schedule e in
    let d = input.0 in
    let object = parts_of (object_from d) _ schedule input.2 in
    let seats = parts_of (number_of_key fields.Seats 1 64 d) _ schedule object.2 in
    let found = parts_of (elements_of_key fields.Events most_events d) _ schedule seats.2 in
    let events = parts_of (each_from (event_from object.0) 0 found.0) (λ es. Ok (record { object = object.0; seats = seats.0; events = es })) schedule found.2 in
    let same : record { object = object.0; seats = seats.0; events = events.0 } ≡ schedule = cc events.2 in
    let few = elements_of_key_are_few fields.Events most_events d found.0 found.1 in
    let count = length-running_from (event_from object.0) next_index 0 found.0 events.0 events.1 in
    let kept : All (λ (event : Event). Keeps object.0 event.act) events.0 = All-running_from (λ (event : Event). Keeps object.0 event.act) (event_from object.0) next_index (event_keeps object.0) 0 found.0 events.0 events.1 in
    subst (λ (s : ScheduleOf). IsScheduleInRange s) same (record {
      object = object_is_in_range d object.0 object.1;
      seats = number_of_key_is_within fields.Seats 1 64 d seats.0 seats.1;
      count = omega (arith, few, count);
      acts = All-weaker (λ (event : Event). Keeps object.0 event.act) (λ (event : Event). IsActInRange event.act) (λ event keeps. keeps.0) events.0 kept;
      calls = All-weaker (λ (event : Event). Keeps object.0 event.act) (λ (event : Event). IsActOf object.0 event.act) (λ event keeps. keeps.1) events.0 kept;
    })
