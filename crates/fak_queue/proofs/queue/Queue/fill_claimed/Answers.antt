use Rattle.fak_model.specs.declared.queue.Kind.TheVariants.{EndIn}
use Rattle.fak_model.specs.Calls.{object_id}
use Rattle.fak_queue.specs.declared.bundle.BundleState.TheVariants.{Idle}
use Rattle.fak_queue.specs.Bundles.{FilledOn, LastEnds}
use Rattle.fak_queue.specs.BundleCalls.{drawn_by_all}
use Rattle.fak_queue.specs.BurstCalls.{FillsBurst}
use Rattle.fak_queue.proofs.BundleCalls.{fills_so, fill_drawn, fill_rests}
use Rattle.fak_queue.proofs.BundleObjects.{called, keeps, inserts_now, one_insertion, state_now}
use Rattle.fak_queue.proofs.Common.{◌≡◌, ◌∙◌, arith, refl, subst, sym}
use Rattle.fak_queue.proofs.queue.Queue.fill_claimed.Goals as goal

pub invariant_of-bundle : goal.invariant_of-bundle
invariant_of-bundle g c =
    let o = object_id c.self.inside.table.shared.table_id c.self.inside.table.shared.key.seats in
    let t = subst (λ l. FilledOn c.self.inside.table.shared.table_id.slots c.self.inside.table.shared.key.seats l c.in-Inserting.ticket c.in-Inserting.ended c.in-Inserting.granted c.in-Inserting.granted c.bundle.inside.kept.items c.fill_all.new.kept.items c.bundle.inside.token.me c.fill_all.new.token.me) c.as_slice.ensures.value c.fill_all.ensures.told.told in
    let a = inserts_now c.self.inside.table.shared.key c.bundle.invariant c.self.invariant c.bundle.view_is c.self.view_is c.requires.object c.in-Inserting.is in
    let less = a.some in
    keeps c.self.inside.table.shared.key c.bundle.invariant c.self.invariant c.bundle.view_is c.self.view_is c.requires.object c.fill_all.ensures.told.same c.bundle.inside.left Idle c.fill_all.new.token.me _ c.fill_all.new.kept.items
    (t.marks.names_are ∙ c.bundle.invariant.names_are) (t.marks.left ∙ c.bundle.invariant.left_is) t.slots t.marks.lawful c.fill_all.ensures.capacity
    (fill_rests o _ _ _ _ _ c.bundle.inside.left _ _ _ _ t a (omega (arith, less)) refl)

pub returns-clause-left : goal.returns-clause-left
returns-clause-left g c =
    let o = object_id c.self.inside.table.shared.table_id c.self.inside.table.shared.key.seats in
    let t = subst (λ l. FilledOn c.self.inside.table.shared.table_id.slots c.self.inside.table.shared.key.seats l c.in-Inserting.ticket c.in-Inserting.ended c.in-Inserting.granted c.in-Inserting.granted c.bundle.inside.kept.items c.fill_all.new.kept.items c.bundle.inside.token.me c.fill_all.new.token.me) c.as_slice.ensures.value c.fill_all.ensures.told.told in
    called c.self.inside.table.shared.key c.bundle.invariant c.self.invariant c.bundle.view_is c.self.view_is c.requires.object c.fill_all.ensures.told.same c.bundle.inside.left Idle c.fill_all.new.token.me
    (λ s old new. drawn_by_all new ≡ drawn_by_all old) (fill_drawn o _ _ _ _ _ c.bundle.inside.left _ _ _ _ t)

pub returns-clause-call : goal.returns-clause-call
returns-clause-call g c = λ k g' e.
    let o = object_id c.self.inside.table.shared.table_id c.self.inside.table.shared.key.seats in
    let t = subst (λ l. FilledOn c.self.inside.table.shared.table_id.slots c.self.inside.table.shared.key.seats l c.in-Inserting.ticket c.in-Inserting.ended c.in-Inserting.granted c.in-Inserting.granted c.bundle.inside.kept.items c.fill_all.new.kept.items c.bundle.inside.token.me c.fill_all.new.token.me) c.as_slice.ensures.value c.fill_all.ensures.told.told in
    let was = state_now c.self.inside.table.shared.key c.bundle.invariant c.self.invariant c.bundle.view_is c.self.view_is c.requires.object in
    let one = one_insertion (sym c.in-Inserting.is ∙ (sym was ∙ e)) in
    called c.self.inside.table.shared.key c.bundle.invariant c.self.invariant c.bundle.view_is c.self.view_is c.requires.object c.fill_all.ensures.told.same c.bundle.inside.left Idle c.fill_all.new.token.me
    (λ s old new. FillsBurst s k 0 g' old new)
    (fills_so o _ _ _ _ _ c.bundle.inside.left _ _ _ _ t (subst (λ l. LastEnds EndIn l c.in-Inserting.ended c.in-Inserting.granted c.fill_all.new.token.me) c.as_slice.ensures.value c.fill_all.ensures.last) c.bundle.inside.state Idle one.0 one.1 one.2)
