use Rattle.fak_queue.proofs.BundleMaking.{joins_seen, just_both, tally_keeps}
use Rattle.fak_queue.proofs.Common.{QueueInfo, TallyInfo, In, ap, sym, subst, ◌∙◌, ◌++◌, arith}
use Rattle.fak_queue.proofs.queue.Queue.join_bundle.Goals as goal

pub insert_names-requires : goal.insert_names-requires
insert_names-requires g c = λ n i.
    let low = c.bundle.invariant.below n (subst (In n) c.deref.ensures.value i) in
    let few = c.bundle.invariant.few_seats in
    omega (arith, low, few)

pub invariant_of-result : goal.invariant_of-result
invariant_of-result g c =
    let told = c.join_rested.ensures.told in
    let object = ap (λ (q : QueueInfo). q.object) c.self.view_is in
    let its = ap (λ (t : TallyInfo _). t.object) c.tally.view_is ∙ (c.requires.object.0 ∙ sym object) in
    let just = just_both _ _ _ _ c.tally.invariant.just c.insert_names.ensures (λ i. c.tally.inside.token.me.0.names ++ (c.bundle.invariant.names_are ∙ sym c.deref.ensures.value) i) in
    tally_keeps told.rests (c.join_rested.ensures.same ∙ ap (λ o. o.table) its) (ap (λ o. o.seats) its) just

pub returns-clause-joined : goal.returns-clause-joined
returns-clause-joined g c = joins_seen _ c.join_rested.ensures.told c.join_rested.ensures.same c.tally.view_is c.bundle.view_is c.bundle.invariant.names_are c.self.view_is c.requires.object.0 c.requires.object.1
