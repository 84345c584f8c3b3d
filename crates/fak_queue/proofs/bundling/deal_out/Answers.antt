use Rattle.std.specs.Vec.Iter.{into_iter_items}
use Rattle.fak_model.proofs.RunningSeats.{splits}
use Rattle.fak_model.specs.Calls.{object_id}
use Rattle.fak_core.proofs.QueueBlocks.{no_items}
use Rattle.fak_queue.specs.BundleCalls.{BundleInfo}
use Rattle.fak_queue.proofs.BundleSharing.{deals_first, dealt_all, dealt_as, dealt_first, dealt_keeps, dealt_next, dealt_room}
use Rattle.fak_queue.proofs.Common.{QueueInfo, ObjectId, queue_object, queue_seat, rules, ◌≡◌, ◌++◌, ◌∷◌, [], ◌/◌, true, not, is_ok, length, refl, ap, sym, ◌∙◌, arith}
use Rattle.fak_queue.proofs.bundling.deal_out.Goals as goal

pub loop-name-init : goal.loop-name-init
loop-name-init g c =
    let object = ap (λ (b : BundleInfo _). b.object) c.bundle.view_is ∙ (c.requires.object ∙ sym (ap (λ (q : QueueInfo). q.object) c.queue.view_is)) in
    let gives : into_iter_items c.into_iter-name-iterator.result ≡ c.bundle.inside.names.items = c.into_iter-name-iterator.ensures.into_iter_gives.0 in
    record {
      can_next = tt;
      is_finite = tt;
      table = c.rest.ensures.same ∙ ap (λ (o : ObjectId). o.table) object;
      others = c.len-others.ensures ∙ (c.bundle.inside.names.ok.0 ∙ ap length (sym gives));
      room = c.requires.room;
      dealt = dealt_as (dealt_first c.bundle.invariant c.bundle.view_is c.rest.ensures.told) gives c.requires.none;
    }

pub split_seat-requires : goal.split_seat-requires
split_seat-requires g c = (c.loop-name.invariant.table, omega (arith, c.queue.invariant.words), splits (queue_object c.queue.inside.table.shared.key.size c.queue.inside.table.shared.key.seats) _ _)

pub invariant_of-parts : goal.invariant_of-parts
invariant_of-parts g c =
    let object = ap (λ (b : BundleInfo _). b.object) c.bundle.view_is ∙ (c.requires.object ∙ sym (ap (λ (q : QueueInfo). q.object) c.queue.view_is)) in
    let stays = c.split_seat.ensures.3 ∙ (c.loop-name.invariant.table ∙ sym (ap (λ (o : ObjectId). o.table) object)) in
    dealt_keeps (deals_first c.bundle.invariant c.bundle.view_is c.rest.ensures.told) c.loop-name.invariant.dealt c.in-Some.ensures.steps.0 c.loop-name.invariant.others c.split_seat.ensures.2 c.split_seat.ensures.4 stays

pub unreachable-requires : goal.unreachable-requires
unreachable-requires g c =
    let low = dealt_room c.loop-name.invariant.dealt c.in-Some.ensures.steps.0 in
    let names : length c.bundle.inside.names.items ≡ length c.args.bundle.names = ap (λ (b : BundleInfo _). length b.names) c.bundle.view_is in
    let room = c.loop-name.invariant.room in
    let long = c.loop-name.dealt.ok.0 in
    let good = c.push.ensures.succeeds (omega (arith, low, names, room, long)) in
    search (rules, good)

pub loop-name-preserved : goal.loop-name-preserved
loop-name-preserved g c =
    let object = ap (λ (b : BundleInfo _). b.object) c.bundle.view_is ∙ (c.requires.object ∙ sym (ap (λ (q : QueueInfo). q.object) c.queue.view_is)) in
    let stays = c.split_seat.ensures.3 ∙ (c.loop-name.invariant.table ∙ sym (ap (λ (o : ObjectId). o.table) object)) in
    let next = dealt_next (deals_first c.bundle.invariant c.bundle.view_is c.rest.ensures.told) c.loop-name.invariant.dealt c.in-Some.ensures.steps.0 c.loop-name.invariant.others c.split_seat.ensures.2 c.split_seat.ensures.4 stays in
    let ok : is_ok c.push.result ≡ true = c.is_err.ensures.negation ∙ ap not c.if-is_err.false in
    let added : c.push.new.self.items ≡ c.loop-name.dealt.items ++ queue_seat (object_id c.split_seat.result.table_id c.bundle.inside.seats) c.in-Some.name (c.loop-name.left / c.loop-name.others) c.split_seat.result.me ∷ [] = search (rules, ok) in
    let more = ap length c.in-Some.ensures.steps.0 in
    let many = c.loop-name.invariant.others in
    let room = c.loop-name.invariant.room in
    let capacity = c.push.ensures.capacity in
    record {
      can_next = tt;
      is_finite = tt;
      table = c.split_seat.ensures.0 ∙ c.loop-name.invariant.table;
      others = omega (arith, many, more);
      room = omega (arith, room, capacity);
      dealt = dealt_as next refl added;
    }

pub returns : goal.returns
returns g c =
    let none : length c.loop-name.name-iterator.rest.items ≡ 0 = omega (arith, c.loop-name.name-iterator.rest.ok, c.in-None.ensures.steps.0) in
    dealt_all _ (deals_first c.bundle.invariant c.bundle.view_is c.rest.ensures.told) c.loop-name.invariant.dealt (no_items _ none)
