use Rattle.fak_run.proofs.Common.{◌≡◌, ◌∙◌, ◌-◌, ap, sym, map, take, length, refl, steps_of, note_of, told_notes}
use Rattle.std.proofs.lemmas.List.{take-map, length-map}
use Rattle.fak_run.proofs.Fitting.{IsContext-unnoted}
use Rattle.fak_run.proofs.Told.{length-told, told-take}
use Rattle.fak_run.proofs.context.Context.without_down.Goals as goal

pub invariant_of-self : goal.invariant_of-self
invariant_of-self g c =
    let steps = steps_of g.K.Run.script c.self.inside.program in
    let kept = map note_of c.self.inside.journal.items in
    let asleep = rw (← c.self.view_is) at c.requires in
    let long : length c.as_slice-journal.result.now ≡ length (told_notes steps kept) = ap length c.as_slice-journal.ensures.value ∙ (sym (length-map c.self.inside.journal.items note_of) ∙ sym (length-told steps kept)) in
    let cut : told_notes steps (map note_of c.truncate.new.self.items) ≡ take (length (told_notes steps kept) - 1) (told_notes steps kept) =
    ap (λ l. told_notes steps (map note_of l)) c.truncate.ensures.items ∙ (ap (told_notes steps) (sym (take-map note_of (length c.as_slice-journal.result.now - 1) c.self.inside.journal.items))
    ∙ (told-take (length c.as_slice-journal.result.now - 1) steps kept ∙ ap (λ n. take (n - 1) (told_notes steps kept)) long)) in
    rw cut (IsContext-unnoted g.K.Run.script c.self.inside.children asleep.0 _ c.self.invariant asleep.1)

pub returns : goal.returns
returns g c =
    let steps = steps_of g.K.Run.script c.self.inside.program in
    let kept = map note_of c.self.inside.journal.items in
    let long : length c.as_slice-journal.result.now ≡ length (told_notes steps kept) = ap length c.as_slice-journal.ensures.value ∙ (sym (length-map c.self.inside.journal.items note_of) ∙ sym (length-told steps kept)) in
    let cut : told_notes steps (map note_of c.truncate.new.self.items) ≡ take (length (told_notes steps kept) - 1) (told_notes steps kept) =
    ap (λ l. told_notes steps (map note_of l)) c.truncate.ensures.items ∙ (ap (told_notes steps) (sym (take-map note_of (length c.as_slice-journal.result.now - 1) c.self.inside.journal.items))
    ∙ (told-take (length c.as_slice-journal.result.now - 1) steps kept ∙ ap (λ n. take (n - 1) (told_notes steps kept)) long)) in
    rw (← c.self.view_is) (rw cut refl)
