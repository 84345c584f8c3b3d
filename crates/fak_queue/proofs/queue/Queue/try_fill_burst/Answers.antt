use Rattle.fak_model.specs.declared.queue.Kind.TheVariants.{EndIn}
use Rattle.fak_model.specs.Calls.{object_id}
use Rattle.fak_queue.specs.Bundles.{FilledOn, LastEnds}
use Rattle.fak_queue.specs.BundleCalls.{drawn_by_all}
use Rattle.fak_queue.specs.BurstCalls.{TriesToFill}
use Rattle.fak_queue.proofs.BundleCalls.{fill_drawn, fill_keeps, tries_to_fill}
use Rattle.fak_queue.proofs.BundleObjects.{called, keeps, inserts_now, one_insertion, state_now}
use Rattle.fak_queue.proofs.Common.{◌≡◌, ◌∙◌, ◌-◌, subst, sym}
use Rattle.fak_queue.proofs.queue.Queue.try_fill_burst.Goals as goal

pub invariant_of-bundle : goal.invariant_of-bundle
invariant_of-bundle g c =
    let o = object_id c.self.inside.table.shared.table_id c.self.inside.table.shared.key.seats in
    let t = subst (λ l. FilledOn c.self.inside.table.shared.table_id.slots c.self.inside.table.shared.key.seats l c.in-Inserting.ticket c.in-Inserting.ended c.fill_ready-done.result c.in-Inserting.granted c.bundle.inside.kept.items c.fill_ready-done.new.kept.items c.bundle.inside.token.me c.fill_ready-done.new.token.me) c.as_slice.ensures.value c.fill_ready-done.ensures.told.told in
    let a = inserts_now c.self.inside.table.shared.key c.bundle.invariant c.self.invariant c.bundle.view_is c.self.view_is c.requires.object c.in-Inserting.is in
    let r = c.fill_ready-done.ensures.range in
    keeps c.self.inside.table.shared.key c.bundle.invariant c.self.invariant c.bundle.view_is c.self.view_is c.requires.object c.fill_ready-done.ensures.told.same c.bundle.inside.left c.unless_ended-bundle-inside.result c.fill_ready-done.new.token.me _ c.fill_ready-done.new.kept.items
    (t.marks.names_are ∙ c.bundle.invariant.names_are) (t.marks.left ∙ c.bundle.invariant.left_is) t.slots t.marks.lawful c.fill_ready-done.ensures.capacity
    (fill_keeps o _ _ _ _ _ c.bundle.inside.left _ _ _ _ t a c.unless_ended-bundle-inside.result r.0 r.1 c.unless_ended-bundle-inside.ensures.all c.unless_ended-bundle-inside.ensures.some)

pub returns-clause-left : goal.returns-clause-left
returns-clause-left g c =
    let o = object_id c.self.inside.table.shared.table_id c.self.inside.table.shared.key.seats in
    let t = subst (λ l. FilledOn c.self.inside.table.shared.table_id.slots c.self.inside.table.shared.key.seats l c.in-Inserting.ticket c.in-Inserting.ended c.fill_ready-done.result c.in-Inserting.granted c.bundle.inside.kept.items c.fill_ready-done.new.kept.items c.bundle.inside.token.me c.fill_ready-done.new.token.me) c.as_slice.ensures.value c.fill_ready-done.ensures.told.told in
    called c.self.inside.table.shared.key c.bundle.invariant c.self.invariant c.bundle.view_is c.self.view_is c.requires.object c.fill_ready-done.ensures.told.same c.bundle.inside.left c.unless_ended-bundle-inside.result c.fill_ready-done.new.token.me
    (λ s old new. drawn_by_all new ≡ drawn_by_all old) (fill_drawn o _ _ _ _ _ c.bundle.inside.left _ _ _ _ t)

pub returns-clause-call : goal.returns-clause-call
returns-clause-call g c = λ k e g' is.
    let o = object_id c.self.inside.table.shared.table_id c.self.inside.table.shared.key.seats in
    let t = subst (λ l. FilledOn c.self.inside.table.shared.table_id.slots c.self.inside.table.shared.key.seats l c.in-Inserting.ticket c.in-Inserting.ended c.fill_ready-done.result c.in-Inserting.granted c.bundle.inside.kept.items c.fill_ready-done.new.kept.items c.bundle.inside.token.me c.fill_ready-done.new.token.me) c.as_slice.ensures.value c.fill_ready-done.ensures.told.told in
    let a = inserts_now c.self.inside.table.shared.key c.bundle.invariant c.self.invariant c.bundle.view_is c.self.view_is c.requires.object c.in-Inserting.is in
    let r = c.fill_ready-done.ensures.range in
    let was = state_now c.self.inside.table.shared.key c.bundle.invariant c.self.invariant c.bundle.view_is c.self.view_is c.requires.object in
    let one = one_insertion (sym c.in-Inserting.is ∙ (sym was ∙ is)) in
    called c.self.inside.table.shared.key c.bundle.invariant c.self.invariant c.bundle.view_is c.self.view_is c.requires.object c.fill_ready-done.ensures.told.same c.bundle.inside.left c.unless_ended-bundle-inside.result c.fill_ready-done.new.token.me
    (λ s old new. TriesToFill s k e g' (c.in-Inserting.granted - c.fill_ready-done.result) old new)
    (tries_to_fill o _ _ _ _ _ c.bundle.inside.left _ _ _ _ t a c.unless_ended-bundle-inside.result r.0 r.1 c.unless_ended-bundle-inside.ensures.all c.unless_ended-bundle-inside.ensures.some c.bundle.inside.state one.0 one.1 one.2 c.fill_ready-done.ensures.early
    (subst (λ l. LastEnds EndIn l c.in-Inserting.ended c.fill_ready-done.result c.fill_ready-done.new.token.me) c.as_slice.ensures.value c.fill_ready-done.ensures.last))
