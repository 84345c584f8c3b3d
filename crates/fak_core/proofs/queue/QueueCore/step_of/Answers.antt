use Rattle.fak_core.proofs.Common.{◌<◌, ◌^◌, ◌∙◌, ap, arith, length, refl, reverse, slice_get, sym, length-reverse, slice_get_read, QueueFields, or_idle, fields_of}
use Rattle.fak_core.proofs.QueueSound.{draws_few, lower_small, ticket_few, upper_small}
use Rattle.fak_core.proofs.QueueCalls.{step_found}
use Rattle.fak_core.proofs.queue.QueueCore.step_of.Goals as goal

abbrev fields : goal.After-item_put-drawn → QueueFields
fields c = record (fields_of c.self.inside.words) { phases = c.self.inside.phases.items; past = reverse c.self.inside.marks.items }

-- a list of marks has fewer than 2^63
few : (c : goal.After-item_put-drawn) → length (fields c).past < 2 ^ 63
few c = omega (arith, length-reverse c.self.inside.marks.items, ap length c.as_slice-marks.ensures.value, c.as_slice-marks.ensures.len)

pub move_by-requires-clause-upper : goal.move_by-requires-clause-upper
move_by-requires-clause-upper c = upper_small (fields c) c.self.invariant.sound

pub move_by-requires-clause-lower : goal.move_by-requires-clause-lower
move_by-requires-clause-lower c = lower_small (fields c) c.self.invariant.sound

pub move_by-requires-clause-draws : goal.move_by-requires-clause-draws
move_by-requires-clause-draws c = let d = draws_few (fields c) c.self.invariant.sound in (omega (arith, d.0, few c), omega (arith, d.1, few c))

pub move_by-requires-clause-ticket : goal.move_by-requires-clause-ticket
move_by-requires-clause-ticket c =
    let within : c.args.seat < length c.self.inside.phases.items = omega (arith, c.len.ensures) in
    let at = slice_get_read c.self.inside.phases.items _ c.args.seat c.index-phase.result.now refl within c.index-phase.ensures in
    ticket_few (fields c) c.args.seat (2 ^ 63) c.index-phase.result.now c.self.invariant.sound at (few c)

pub returns : goal.returns
returns c =
    let f : QueueFields = record (fields_of c.self.inside.words) { phases = c.self.inside.phases.items; past = reverse c.self.inside.marks.items } in
    let within : c.args.seat < length c.self.inside.phases.items = omega (arith, c.len.ensures) in
    let found = step_found f c.self.inside.items.items c.args.seat c.index-phase.result.now c.item_put-drawn.result c.move_by.result c.self.invariant within c.index-phase.ensures
    (c.item_put-drawn.ensures ∙ ap (λ xs. slice_get xs c.self.inside.words.draws_out) c.deref.ensures.value) c.move_by.ensures in
    rw (← c.self.view_is) (sym (found ∙ ap or_idle c.in-Some.is))
