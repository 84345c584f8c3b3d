use Rattle.std.specs.Vec.Iter.{into_iter_items}
use Rattle.fak_model.specs.Calls.{object_id}
use Rattle.fak_core.proofs.QueueBlocks.{no_items}
use Rattle.fak_queue.specs.Queues.{IsIdleSeat}
use Rattle.fak_queue.proofs.BundleMaking.{bundle_keeps_here, bundle_made}
use Rattle.fak_queue.proofs.Common.{refl, QueueInfo, All, ◌≡◌, ◌∷◌, length, ap, sym, subst, ◌∙◌, arith}
use Rattle.fak_queue.proofs.Gathering.{gathers_all, gathers_first, gathers_next, one_idle, token_fits}
use Rattle.fak_queue.proofs.bundling.gathered.Goals as goal

pub part_of-token-requires : goal.part_of-token-requires
part_of-token-requires g c = (one_idle _ _ (sym c.into_iter-others.ensures.rest ∙ c.in-Some.ensures.cases.0) c.requires.seats).1

pub loop-seat-init : goal.loop-seat-init
loop-seat-init g c =
    let object = ap (λ (q : QueueInfo). q.object) c.queue.view_is in
    let idle = subst (λ o. All (IsIdleSeat o) c.args.seats.items) (sym object) c.requires.seats in
    let all = sym c.into_iter-others.ensures.rest ∙ (c.in-Some.ensures.cases.0 ∙ ap (λ it. c.in-Some.first ∷ into_iter_items it) (sym c.into_iter-seat-iterator.ensures.into_iter_gives)) in
    record {
      can_next = tt;
      is_finite = tt;
      table = (token_fits c.part_of-token.ensures (one_idle _ _ all idle).0).0;
      joined = gathers_first _ _ all idle c.part_of-token.ensures;
    }

pub part_of-part-requires : goal.part_of-part-requires
part_of-part-requires g c = (one_idle _ _ c.in-Some-seat.ensures.steps.0 c.loop-seat.invariant.joined.idle).1

pub join_rested-requires-clause-token : goal.join_rested-requires-clause-token
join_rested-requires-clause-token g c = record { table = record { same = c.loop-seat.invariant.table; few = refl; words = c.queue.invariant.words }; phase = c.loop-seat.invariant.joined.so_far.rests.token }

pub join_rested-requires-clause-other : goal.join_rested-requires-clause-other
join_rested-requires-clause-other g c = (token_fits c.part_of-part.ensures (one_idle _ _ c.in-Some-seat.ensures.steps.0 c.loop-seat.invariant.joined.idle).0).0

pub loop-seat-preserved : goal.loop-seat-preserved
loop-seat-preserved g c =
    let fits = token_fits c.part_of-part.ensures (one_idle _ _ c.in-Some-seat.ensures.steps.0 c.loop-seat.invariant.joined.idle).0 in
    record {
      can_next = tt;
      is_finite = tt;
      table = c.join_rested.ensures.same ∙ c.loop-seat.invariant.table;
      joined = gathers_next _ _ _ c.loop-seat.invariant.joined c.in-Some-seat.ensures.steps.0 fits.2 c.join_rested.ensures.told;
    }

pub invariant_of-result : goal.invariant_of-result
invariant_of-result g c =
    let object = ap (λ (q : QueueInfo). q.object) c.queue.view_is in
    let first = token_fits c.part_of-token.ensures ((one_idle _ _ (sym c.into_iter-others.ensures.rest ∙ c.in-Some.ensures.cases.0) c.requires.seats).0 ∙ sym object) in
    let none : length c.loop-seat.seat-iterator.rest.items ≡ 0 = omega (arith, c.loop-seat.seat-iterator.rest.ok, c.in-None.ensures.steps.0) in
    bundle_keeps_here (gathers_all _ _ c.loop-seat.invariant.joined (no_items _ none)) c.loop-seat.invariant.table first.1 c.requires.names c.requires.some c.requires.kept.0 c.requires.kept.1

pub returns-clause-object : goal.returns-clause-object
returns-clause-object g c =
    let object = ap (λ (q : QueueInfo). q.object) c.queue.view_is in
    let first = token_fits c.part_of-token.ensures ((one_idle _ _ (sym c.into_iter-others.ensures.rest ∙ c.in-Some.ensures.cases.0) c.requires.seats).0 ∙ sym object) in
    (λ i. object_id (c.loop-seat.invariant.table i) (first.1 i)) ∙ object

pub returns-clause-made : goal.returns-clause-made
returns-clause-made g c =
    let object = ap (λ (q : QueueInfo). q.object) c.queue.view_is in
    let first = token_fits c.part_of-token.ensures ((one_idle _ _ (sym c.into_iter-others.ensures.rest ∙ c.in-Some.ensures.cases.0) c.requires.seats).0 ∙ sym object) in
    let none : length c.loop-seat.seat-iterator.rest.items ≡ 0 = omega (arith, c.loop-seat.seat-iterator.rest.ok, c.in-None.ensures.steps.0) in
    bundle_made (gathers_all _ _ c.loop-seat.invariant.joined (no_items _ none)) c.loop-seat.invariant.table first.1 c.requires.names c.queue.view_is
