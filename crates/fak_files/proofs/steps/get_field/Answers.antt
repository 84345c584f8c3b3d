use Rattle.fak_files.proofs.Common.{◌∙◌, ap, arith, subst, ◌<◌, word_of}
use Rattle.fak_files.proofs.StepKinds.{gets_allowed}
use Rattle.fak_files.proofs.WordPlaces.{word_of-low}
use Rattle.fak_files.proofs.steps.get_field.Goals as goal

pub load-requires : goal.load-requires
load-requires g c =
    let field = c.requires.field in
    let entries = ap (λ k. k.entries) c.requires.token.table_is.2 in
    let place = c.place_of.ensures ∙ (λ i. word_of (field.0 i) (field.1 i)) in
    let low = subst (λ x. x < g.J.Call.key.entries) field.0 field.2 in
    let fits = word_of-low g.J.Call.entry g.J.Call.key.entries g.J.Call.field low in
    (c.requires.token.table_is.0, omega (arith, c.requires.token.table_is.1, entries, place, fits), gets_allowed _ _ c.requires.token.table_is.2 _ _ _ _ _ _ _ _ place low c.requires.token.seat)
