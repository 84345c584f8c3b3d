use Rattle.fak_run.proofs.Common.{ap, sym, ◌∙◌, ◌≡◌, ◌++◌, ◌∷◌, map, [], arith, length, slice_get, Some, steps_of, note_of, told_notes, common_steps}
use Rattle.std.proofs.lemmas.List.{map-append, length-map}
use Rattle.fak_run.proofs.Fitting.{IsContext-after_note, children-position}
use Rattle.fak_run.proofs.Told.{length-told, told-allowed, told-push}
use Rattle.fak_run.proofs.context.Context.note.Goals as goal

pub overflow_add-self : goal.overflow_add-self
overflow_add-self g c = grind (arith, common_steps, steps_of, map, note_of, children-position, length-told, length-map)

pub invariant_of-self-2 : goal.invariant_of-self-2
invariant_of-self-2 g c =
    let steps = steps_of g.K.Run.script c.self.inside.program in
    let kept = map note_of c.self.inside.journal.items in
    let asked = rw (← c.self.view_is) at c.requires in
    let here : length kept ≡ c.self.inside.position = sym (length-told steps kept) ∙ sym c.self.invariant.fits.position in
    let at_step : slice_get steps (length kept) ≡ Some asked.0 = ap (slice_get steps) here ∙ asked.1 in
    let pushed : c.push.new.self.items ≡ c.self.inside.journal.items ++ c.args.note ∷ [] = c.in_ok-push.ensures.items in
    let mapped : map note_of c.push.new.self.items ≡ kept ++ note_of c.args.note ∷ [] = ap (map note_of) pushed ∙ map-append note_of c.self.inside.journal.items (c.args.note ∷ []) in
    let grown : told_notes steps (map note_of c.push.new.self.items) ≡ told_notes steps kept ++ note_of c.args.note ∷ [] =
    ap (told_notes steps) mapped ∙ (told-push steps kept asked.0 (note_of c.args.note) at_step ∙ ap (λ n. told_notes steps kept ++ n ∷ []) (told-allowed _ _ asked.0 (note_of c.args.note) asked.2)) in
    rw (grown, c.birth_count-births.ensures.value) (IsContext-after_note g.K.Run.script c.self.inside.children _ asked.0 (note_of c.args.note) c.self.invariant asked.1 asked.2)

pub overflow_add-self-2 : goal.overflow_add-self-2
overflow_add-self-2 g c = grind (arith, common_steps, steps_of, map, note_of, length-told, length-map)

pub returns : goal.returns
returns g c = grind (arith, common_steps, steps_of, map, note_of, length, length-told, slice_get, map-append, told_notes, told-push, told-allowed)
