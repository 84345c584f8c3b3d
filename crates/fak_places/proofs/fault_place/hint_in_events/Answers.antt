use Rattle.std.proofs.Common.{◌≡◌, Some, is_ok, not, rules}
use Rattle.std.specs.List.{position}
use Rattle.serde_json.specs.View.{view}
use Rattle.fak_text.specs.ScheduleText.{event_from}
use Rattle.fak_places.proofs.Objects.{first_of_object}
use Rattle.fak_places.proofs.Spots.{in_first}
use Rattle.fak_places.proofs.fault_place.hint_in_events.Goals as goal

pub returns : goal.returns
returns c =
    let first : position (λ v. not (is_ok (event_from c.object_of-object.result 0 (view v)))) c.elements_of_key-events.result.now ≡ Some c.in_ok-index.index = search rules in
    λ object named. in_first (λ d. not (is_ok (event_from object 0 d))) c.elements_of_key-events.result.now _ c.in_ok-index.index _ _ c.elements_of_key-events.ensures
    (first_of_object _ object c.object_of-object.result c.elements_of_key-events.result.now c.in_ok-index.index named c.object_of-object.ensures first) c.in_item.ensures
