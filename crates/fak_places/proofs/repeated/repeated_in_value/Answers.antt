use Rattle.std.proofs.Common.{◌≡◌, ◌∙◌, IfOk, List, Some, map, ap, sym, subst}
use Rattle.json.proofs.Trees.{view-Object}
use Rattle.json.specs.Value.{members_view, value_view}
use Rattle.json.specs.Json as json
use Rattle.fak_text.specs.declared.fault.Field.{Field}
use Rattle.fak_places.specs.Repeats.{repeated_among, repeated_in_value}
use Rattle.fak_places.proofs.repeated.repeated_in_value.Goals as goal

pub returns-in-Object : goal.returns-in-Object
returns-in-Object c =
    let seen : value_view c.args.value.now ≡ json.object (members_view c.in-Object.members.items) = ap value_view c.in-Object.is ∙ view-Object c.in-Object.members in
    let same : repeated_among c.args.keys.now (members_view c.as_slice.result.now) ≡ repeated_in_value c.args.keys.now (Some (value_view c.args.value.now)) =
    ap (λ ms. repeated_among c.args.keys.now (members_view ms)) c.as_slice.ensures.value ∙ sym (ap (λ j. repeated_in_value c.args.keys.now (Some j)) seen) in
    subst (λ (fields : List Field). IfOk c.repeated_among.result (λ found. map (λ repeated. repeated.key) found.items ≡ fields)) same c.repeated_among.ensures
