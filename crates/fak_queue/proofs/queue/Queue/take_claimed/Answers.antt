use Rattle.fak_model.specs.declared.queue.Kind.TheVariants.{EndOut}
use Rattle.fak_model.specs.Calls.{object_id}
use Rattle.fak_queue.specs.declared.bundle.BundleState.TheVariants.{Idle}
use Rattle.fak_queue.specs.Bundles.{EmptiedOn, LastEnds}
use Rattle.fak_queue.specs.BundleCalls.{drawn_by_all}
use Rattle.fak_queue.specs.BurstCalls.{TakesBurst}
use Rattle.fak_queue.proofs.BundleCallsOut.{more, takes_so, take_drawn, take_rests}
use Rattle.fak_queue.proofs.BundleObjects.{called, keeps, deletes_now, one_deletion, state_now}
use Rattle.fak_queue.proofs.Common.{◌≡◌, ◌∙◌, arith, drop, length, refl, subst, sym}
use Rattle.fak_queue.proofs.queue.Queue.take_claimed.Goals as goal

pub invariant_of-bundle : goal.invariant_of-bundle
invariant_of-bundle g c =
    let o = object_id c.self.inside.table.shared.table_id c.self.inside.table.shared.key.seats in
    let t = subst (λ l. EmptiedOn c.self.inside.table.shared.table_id.slots c.self.inside.table.shared.key.seats l c.in-Deleting.ticket c.in-Deleting.ended c.in-Deleting.granted c.in-Deleting.granted c.args.out.now.items c.take_all.new.out.items c.bundle.inside.token.me c.take_all.new.token.me) c.as_slice.ensures.value c.take_all.ensures.told.told in
    let a = deletes_now c.self.inside.table.shared.key c.bundle.invariant c.self.invariant c.bundle.view_is c.self.view_is c.requires.object c.in-Deleting.is in
    let less = a.some in
    keeps c.self.inside.table.shared.key c.bundle.invariant c.self.invariant c.bundle.view_is c.self.view_is c.requires.object c.take_all.ensures.told.same c.bundle.inside.left Idle c.take_all.new.token.me _ c.bundle.inside.kept.items
    (t.marks.names_are ∙ c.bundle.invariant.names_are) (t.marks.left ∙ c.bundle.invariant.left_is) t.slots t.marks.lawful refl
    (take_rests o _ _ _ _ _ c.bundle.inside.left _ _ _ _ t a (omega (arith, less)) refl)

pub returns-clause-left : goal.returns-clause-left
returns-clause-left g c =
    let o = object_id c.self.inside.table.shared.table_id c.self.inside.table.shared.key.seats in
    let t = subst (λ l. EmptiedOn c.self.inside.table.shared.table_id.slots c.self.inside.table.shared.key.seats l c.in-Deleting.ticket c.in-Deleting.ended c.in-Deleting.granted c.in-Deleting.granted c.args.out.now.items c.take_all.new.out.items c.bundle.inside.token.me c.take_all.new.token.me) c.as_slice.ensures.value c.take_all.ensures.told.told in
    called c.self.inside.table.shared.key c.bundle.invariant c.self.invariant c.bundle.view_is c.self.view_is c.requires.object c.take_all.ensures.told.same c.bundle.inside.left Idle c.take_all.new.token.me
    (λ s old new. drawn_by_all new ≡ drawn_by_all old) (take_drawn o _ _ _ _ _ c.bundle.inside.left _ _ _ _ t)

pub returns-clause-call : goal.returns-clause-call
returns-clause-call g c = λ k g' e.
    let o = object_id c.self.inside.table.shared.table_id c.self.inside.table.shared.key.seats in
    let t = subst (λ l. EmptiedOn c.self.inside.table.shared.table_id.slots c.self.inside.table.shared.key.seats l c.in-Deleting.ticket c.in-Deleting.ended c.in-Deleting.granted c.in-Deleting.granted c.args.out.now.items c.take_all.new.out.items c.bundle.inside.token.me c.take_all.new.token.me) c.as_slice.ensures.value c.take_all.ensures.told.told in
    let a = deletes_now c.self.inside.table.shared.key c.bundle.invariant c.self.invariant c.bundle.view_is c.self.view_is c.requires.object c.in-Deleting.is in
    let less = a.some in
    let was = state_now c.self.inside.table.shared.key c.bundle.invariant c.self.invariant c.bundle.view_is c.self.view_is c.requires.object in
    let one = one_deletion (sym c.in-Deleting.is ∙ (sym was ∙ e)) in
    let ys = drop (length c.args.out.now.items) c.take_all.new.out.items in (
      ys,
      more o _ _ _ _ _ c.bundle.inside.left _ _ _ _ t,
      called c.self.inside.table.shared.key c.bundle.invariant c.self.invariant c.bundle.view_is c.self.view_is c.requires.object c.take_all.ensures.told.same c.bundle.inside.left Idle c.take_all.new.token.me
          (λ s old new. TakesBurst s k 0 g' ys old new) (takes_so o _ _ _ _ _ c.bundle.inside.left _ _ _ _ t (omega (arith, less)) (subst (λ l. LastEnds EndOut l c.in-Deleting.ended c.in-Deleting.granted c.take_all.new.token.me) c.as_slice.ensures.value c.take_all.ensures.last) c.bundle.inside.state Idle one.0 one.1 one.2),
    )
