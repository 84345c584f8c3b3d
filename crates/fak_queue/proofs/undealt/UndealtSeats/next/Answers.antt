use Rattle.fak_queue.specs.SleeperSeats.{UndealtInfo}
use Rattle.fak_queue.proofs.Common.{Alike, ObjectId, QueueInfo, queue_object, ap, sym, ◌∙◌, arith, deals}
use Rattle.fak_core.specs.declared.queue.phase.Phase.TheVariants.{Idle}
use Rattle.fak_queue.proofs.Dealing.{next_keeps, others_keep}
use Rattle.fak_queue.proofs.undealt.UndealtSeats.next.Goals as goal

pub split_seat-requires : goal.split_seat-requires
split_seat-requires g c =
    let low = c.if-self.false in
    let some = c.self.invariant.some in (
      ap (λ (o : ObjectId). o.table) (ap (λ (u : UndealtInfo). u.object) c.self.view_is ∙ (c.requires ∙ sym (ap (λ (q : QueueInfo). q.object) c.queue.view_is))),
      omega (arith, c.queue.invariant.words),
      deals (queue_object c.queue.inside.table.shared.key.size c.queue.inside.table.shared.key.seats) (Alike Idle) c.self.inside.stint c.self.inside.next c.self.inside.seats c.self.inside.rest.id c.self.inside.rest.me (omega (arith, low, some)) c.self.invariant.me_is,
    )

pub invariant_of-parts : goal.invariant_of-parts
invariant_of-parts g c =
    let low = c.if-self.false in
    let some = c.self.invariant.some in
    next_keeps c.queue.inside.table.shared.key.size c.self.inside.rest.id c.self.invariant (omega (arith, low, some)) c.split_seat.result.table_id.slots c.split_seat.ensures.4

pub invariant_of-self : goal.invariant_of-self
invariant_of-self g c =
    let low = c.if-self.false in
    let some = c.self.invariant.some in
    others_keep c.queue.inside.table.shared.key.size c.self.inside.rest.id c.self.invariant (omega (arith, low, some)) c.split_seat.ensures.2
