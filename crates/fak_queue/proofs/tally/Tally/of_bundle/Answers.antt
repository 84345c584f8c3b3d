use Rattle.fak_model.specs.Names.{HasJust}
use Rattle.fak_queue.specs.BundleCalls.{BundleInfo}
use Rattle.fak_queue.proofs.BundleMaking.{just_all, name_first, tally_keeps}
use Rattle.fak_queue.proofs.Common.{QueueInfo, In, ap, sym, subst, ◌∙◌, arith}
use Rattle.fak_queue.proofs.tally.Tally.of_bundle.Goals as goal

pub of-set-requires : goal.of-set-requires
of-set-requires g c =
    let low = c.bundle.invariant.below _ (name_first c.bundle.inside.names.items c.index.result.now c.bundle.invariant.some c.index.ensures) in
    let few = c.bundle.invariant.few_seats in
    omega (arith, low, few)

pub insert_names-requires : goal.insert_names-requires
insert_names-requires g c = λ n i.
    let low = c.bundle.invariant.below n (subst (In n) c.deref.ensures.value i) in
    let few = c.bundle.invariant.few_seats in
    omega (arith, low, few)

pub invariant_of-result : goal.invariant_of-result
invariant_of-result g c =
    let object = ap (λ (q : QueueInfo). q.object) c.queue.view_is in
    let its = ap (λ (b : BundleInfo _). b.object) c.bundle.view_is ∙ (c.requires.object ∙ sym object) in
    let names = c.bundle.invariant.names_are in
    let first = name_first c.bundle.inside.names.items c.index.result.now c.bundle.invariant.some c.index.ensures in
    let all = just_all _ _ _ c.deref.result.now (subst (In c.index.result.now) (sym c.deref.ensures.value) first) c.of-set.ensures c.insert_names.ensures in
    tally_keeps c.rest.ensures.told.rests (c.rest.ensures.same ∙ ap (λ o. o.table) its) (ap (λ o. o.seats) its) (subst (HasJust c.insert_names.new.set) (c.deref.ensures.value ∙ sym names) all)
