use Rattle.std.proofs.Common.{◌≡◌, Some, is_ok, not, rules}
use Rattle.std.specs.List.{position}
use Rattle.serde_json.specs.View.{view}
use Rattle.fak_text.specs.HistoryText.{mark_from}
use Rattle.fak_places.proofs.Spots.{in_first}
use Rattle.fak_places.proofs.fault_place.hint_in_marks.Goals as goal

pub returns : goal.returns
returns c =
    let first : position (λ v. not (is_ok (mark_from 0 (view v)))) c.elements_of_key-marks.result.now ≡ Some c.in_ok-index.index = search rules in
    in_first (λ d. not (is_ok (mark_from 0 d))) c.elements_of_key-marks.result.now _ c.in_ok-index.index _ _ c.elements_of_key-marks.ensures first c.in_item.ensures
