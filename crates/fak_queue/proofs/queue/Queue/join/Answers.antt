use Rattle.fak_queue.proofs.Common.{queue_object, QueueInfo, AreIdle, rules, ap, sym, ◌∙◌, subst, reverse, token_slots, tally_at, seat_at, may_join, token_joined, set_joined, call_joined, TableId, Mark, IsJoined, SeatInfo, TallyInfo, object_id, tally_info, IsQueueHistory, queue_rules}
use Rattle.fak_queue.proofs.SeatCalls.{idle_token}
use Rattle.fak_queue.proofs.SeatParts.{seat_is}
use Rattle.fak_queue.proofs.Tallies.{HasEnded, seat_ended, idle_joined}
use Rattle.fak_queue.proofs.queue.Queue.join.Goals as goal

pub join_seat-requires : goal.join_seat-requires
join_seat-requires g c =
    let o = queue_object c.self.inside.table.shared.key.size c.self.inside.table.shared.key.seats in
    let object = ap (λ (x : QueueInfo). x.object) c.self.view_is in
    let seat = idle_token c.parts.invariant (seat_is c.parts.view_is ∙ c.seat.view_is) c.requires.idle in (
      tally_at o c.tally.invariant.token seat c.tally.view_is (seat_is c.parts.view_is ∙ c.seat.view_is) object c.requires.object.0 c.requires.object.1,
      seat_at o c.tally.invariant.token seat c.tally.view_is (seat_is c.parts.view_is ∙ c.seat.view_is) object c.requires.object.0 c.requires.object.1,
      token_slots seat,
      search (rules, c.self.invariant.words),
      may_join o c.tally.invariant.token seat c.tally.view_is (seat_is c.parts.view_is ∙ c.seat.view_is) object c.requires.object.0 c.requires.object.1 _ _,
    )

pub invariant_of-result : goal.invariant_of-result
invariant_of-result g c =
    let o = queue_object c.self.inside.table.shared.table_id.slots c.self.inside.table.shared.key.seats in
    let object = ap (λ (x : QueueInfo). x.object) c.self.view_is in
    let seat = idle_token c.parts.invariant (seat_is c.parts.view_is ∙ c.seat.view_is) c.requires.idle in
    let stays = c.hear.ensures.same ∙ c.join_seat.ensures.0 in
    let here = stays ∙ tally_at o c.tally.invariant.token seat c.tally.view_is (seat_is c.parts.view_is ∙ c.seat.view_is) object c.requires.object.0 c.requires.object.1 in
    let joined = call_joined o c.tally.invariant.token seat c.tally.view_is (seat_is c.parts.view_is ∙ c.seat.view_is) object c.requires.object.0 c.requires.object.1 c.join_seat.ensures.2 c.hear.ensures.told {now = c.hear.new.token.table_id} stays in
    record {
      token = token_joined o c.tally.invariant.token seat c.tally.view_is (seat_is c.parts.view_is ∙ c.seat.view_is) object c.requires.object.0 c.requires.object.1 c.join_seat.ensures.2 c.hear.ensures.told;
      just = set_joined o c.tally.invariant.token seat c.tally.view_is (seat_is c.parts.view_is ∙ c.seat.view_is) object c.requires.object.0 c.requires.object.1 c.join_seat.ensures.2 c.hear.ensures.told _ _ c.tally.invariant.just c.insert.ensures;
      lawful = subst (λ (t : TableId). IsQueueHistory t.slots (reverse c.hear.new.token.me.0.seen)) (sym here) joined.lawful;
      idle = idle_joined joined (subst (λ (t : TallyInfo (Mark _)). AreIdle t.names t.seen) c.tally.view_is c.tally.invariant.idle)
          (subst (λ (s : SeatInfo (Mark _)). HasEnded s.name s.seen) (seat_is c.parts.view_is ∙ c.seat.view_is) (seat_ended c.parts.invariant (seat_is c.parts.view_is ∙ c.seat.view_is) c.requires.idle));
    }

pub returns-clause-joined : goal.returns-clause-joined
returns-clause-joined g c =
    let o = queue_object c.self.inside.table.shared.table_id.slots c.self.inside.table.shared.key.seats in
    let object = ap (λ (x : QueueInfo). x.object) c.self.view_is in
    let seat = idle_token c.parts.invariant (seat_is c.parts.view_is ∙ c.seat.view_is) c.requires.idle in
    let size = ap (λ (x : QueueInfo). x.size) c.self.view_is in
    subst (λ k. IsJoined (queue_rules k) c.args.tally c.args.seat (tally_info (object_id c.hear.new.token.table_id c.tally.inside.seats) c.hear.new.token.me.0.names (reverse c.hear.new.token.me.0.seen))) size
    (call_joined o c.tally.invariant.token seat c.tally.view_is (seat_is c.parts.view_is ∙ c.seat.view_is) object c.requires.object.0 c.requires.object.1 c.join_seat.ensures.2 c.hear.ensures.told {now = c.hear.new.token.table_id} (c.hear.ensures.same ∙ c.join_seat.ensures.0))
