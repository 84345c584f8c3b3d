use Rattle.fak_run.proofs.Common.{ap, sym, ◌∙◌, ◌≡◌, ◌++◌, ◌∷◌, map, [], arith, length, slice_get, Some, refl, string_bytes, say, steps_of, said, note_of, told_notes, common_steps}
use Rattle.std.proofs.lemmas.List.{map-append, length-map}
use Rattle.fak_run.proofs.Fitting.{IsContext-said}
use Rattle.fak_run.proofs.Told.{length-told, told-push}
use Rattle.fak_run.proofs.context.Context.note_said.Goals as goal

pub overflow_add-self : goal.overflow_add-self
overflow_add-self g c = grind (arith, common_steps, steps_of, map, note_of, length-told, length-map)

pub invariant_of-self-2 : goal.invariant_of-self-2
invariant_of-self-2 g c =
    let steps = steps_of g.K.Run.script c.self.inside.program in
    let kept = map note_of c.self.inside.journal.items in
    let asked = rw (← c.self.view_is) at c.requires in
    let here : length kept ≡ c.self.inside.position = sym (length-told steps kept) ∙ sym c.self.invariant.fits.position in
    let at_step : slice_get steps (length kept) ≡ Some (say asked.0) = ap (slice_get steps) here ∙ asked.1 in
    let pushed = c.in_ok-push.ensures.items in
    let blank = said (string_bytes c.new.result) in
    let mapped : map note_of c.push.new.self.items ≡ kept ++ blank ∷ [] = ap (map note_of) pushed ∙ map-append note_of c.self.inside.journal.items _ in
    let grown : told_notes steps (map note_of c.push.new.self.items) ≡ told_notes steps kept ++ said asked.0 ∷ [] = ap (told_notes steps) mapped ∙ told-push steps kept (say asked.0) blank at_step in
    rw grown (IsContext-said g.K.Run.script c.self.inside.children _ asked.0 c.self.invariant asked.1)

pub returns : goal.returns
returns g c = record {
  noted = λ text stands.
      let steps = steps_of g.K.Run.script c.self.inside.program in
      let kept = map note_of c.self.inside.journal.items in
      let asked = rw (← c.self.view_is) at stands in
      let here : length kept ≡ c.self.inside.position = sym (length-told steps kept) ∙ sym c.self.invariant.fits.position in
      let at_step : slice_get steps (length kept) ≡ Some (say text) = ap (slice_get steps) here ∙ asked in
      let pushed = c.in_ok-push.ensures.items in
      let blank = said (string_bytes c.new.result) in
      let mapped : map note_of c.push.new.self.items ≡ kept ++ blank ∷ [] = ap (map note_of) pushed ∙ map-append note_of c.self.inside.journal.items _ in
      let grown : told_notes steps (map note_of c.push.new.self.items) ≡ told_notes steps kept ++ said text ∷ [] = ap (told_notes steps) mapped ∙ told-push steps kept (say text) blank at_step in
      rw (← c.self.view_is) (rw grown refl);
}
