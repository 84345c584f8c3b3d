use Rattle.std.proofs.Common.{◌≡◌, Some, is_ok, rules}
use Rattle.serde_json.specs.View.{view, items_view}
use Rattle.serde_json.specs.Find.{as_array}
use Rattle.serde_json.specs.Events.{items_len}
use Rattle.fak_text.specs.HistoryText.{mark_from}
use Rattle.fak_text.specs.Values.{number_at, text_at}
use Rattle.fak_places.specs.Named.{bears_named, is_right_mark}
use Rattle.fak_places.proofs.MarkNames.{mark_is}
use Rattle.fak_places.proofs.mark.wrong_mark.Goals as goal

pub returns-in_default-bears : goal.returns-in_default-bears
returns-in_default-bears c =
    let value = view c.args.value.now in
    let items : as_array value ≡ Some (items_view c.in-Some.items.now.items) = search rules in
    let first : number_at 0 value ≡ Some c.in-Some-number_at.seat = search rules in
    let second : text_at 1 value ≡ Some c.in-Some-text_at.name.now = search rules in
    let by_name : is_ok (mark_from 0 value) ≡ is_right_mark (bears_named c.in-Some-text_at.name.now) c.in-Some-number_at.seat (items_len (items_view c.in-Some.items.now.items)) (number_at 2 value) =
    mark_is value _ c.in-Some-number_at.seat c.in-Some-text_at.name.now items first second in
    search (rules, by_name)

pub returns : goal.returns
returns c =
    let value = view c.args.value.now in
    let items : as_array value ≡ Some (items_view c.in-Some.items.now.items) = search rules in
    let first : number_at 0 value ≡ Some c.in-Some-number_at.seat = search rules in
    let second : text_at 1 value ≡ Some c.in-Some-text_at.name.now = search rules in
    let by_name : is_ok (mark_from 0 value) ≡ is_right_mark (bears_named c.in-Some-text_at.name.now) c.in-Some-number_at.seat (items_len (items_view c.in-Some.items.now.items)) (number_at 2 value) =
    mark_is value _ c.in-Some-number_at.seat c.in-Some-text_at.name.now items first second in
    search (rules, by_name)
