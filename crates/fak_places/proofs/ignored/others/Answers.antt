use Rattle.std.proofs.Common.{◌≡◌, ◌∙◌, true, false, string_bytes, sym, ap, rules}
use Rattle.fak_places.specs.Keys.{is_named}
use Rattle.fak_places.proofs.OtherNames.{found_and_left, none_found, all_found, passed_over, found_next}
use Rattle.fak_places.proofs.ignored.others.Goals as goal

pub loop-key-init : goal.loop-key-init
loop-key-init c =
    none_found c.args.keys.now c.new-found.result.items c.args.members.now.entries c.into_iter-key-iterator.result c.new-found.ensures.items
    (c.into_iter-key-iterator.ensures.into_iter_gives ∙ c.keys-key-items.ensures.rest)

pub loop-key-preserved-in_ok-push : goal.loop-key-preserved-in_ok-push
loop-key-preserved-in_ok-push c =
    let other : is_named c.args.keys.now (string_bytes c.in-Some.key.now) ≡ false = search rules in
    let copied : string_bytes c.in_ok-clone.field-0 ≡ string_bytes c.in-Some.key.now = c.in_ok-clone.ensures.cases in
    let pushed = found_next c.args.keys.now c.loop-key.found.items c.in-Some.key.now c.in_ok-clone.field-0 c.next.new.self other copied in
    ap (λ items. found_and_left c.args.keys.now items c.next.new.self) c.in_ok-push.ensures.items ∙ pushed
    ∙ sym (ap (found_and_left c.args.keys.now c.loop-key.found.items) c.in-Some.ensures.steps) ∙ c.loop-key.invariant

pub loop-key-preserved : goal.loop-key-preserved
loop-key-preserved c =
    let named : is_named c.args.keys.now (string_bytes c.in-Some.key.now) ≡ true = search rules in
    passed_over c.args.keys.now c.loop-key.found.items c.in-Some.key.now c.next.new.self named
    ∙ sym (ap (found_and_left c.args.keys.now c.loop-key.found.items) c.in-Some.ensures.steps) ∙ c.loop-key.invariant

pub returns : goal.returns
returns c = all_found c.args.keys.now c.loop-key.found.items c.args.members.now.entries c.loop-key.key-iterator c.in-None.ensures.steps.0 c.loop-key.invariant
