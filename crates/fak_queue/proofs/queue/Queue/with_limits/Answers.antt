use Rattle.fak_core.specs.declared.queue.phase.Phase.TheVariants.{Idle}
use Rattle.fak_model.specs.Calls.{object_id, seat_info}
use Rattle.fak_queue.proofs.Common.{Alike, queue_object, seat_of, queue_seat, rules, ◌≡◌, ◌+◌, ◌++◌, [], ◌∷◌, ap, sym, not, true, is_ok, ◌∙◌, arith, deals, dealt_is, kept_is, fresh_token, fresh_next}
use Rattle.fak_queue.proofs.Openings.{fresh_queue_seat, fresh_keeps}
use Rattle.fak_queue.proofs.queue.Queue.with_limits.Goals as goal

pub split_seat-requires : goal.split_seat-requires
split_seat-requires g c = (search rules, search rules, deals (queue_object c.in-Ok.table.shared.key.size c.in-Ok.table.shared.key.seats) (Alike Idle) c.args.stint c.loop-name.name c.args.seats c.loop-name.rest.id c.loop-name.rest.me (search rules) c.loop-name.invariant.1)

pub invariant_of-parts : goal.invariant_of-parts
invariant_of-parts g c =
    let dealt = c.split_seat.ensures.4 ∙ dealt_is (queue_object c.in-Ok.table.shared.key.size c.in-Ok.table.shared.key.seats) (Alike Idle) c.args.stint c.loop-name.name c.args.seats c.loop-name.rest.id c.loop-name.rest.me (search rules) c.loop-name.invariant.1 in
    fresh_keeps _ c.args.seats c.loop-name.name c.args.stint c.split_seat.result.me dealt (fresh_token seat_of c.args.seats (Alike Idle) c.args.stint c.loop-name.name c.split_seat.result.me dealt (search rules) (search rules))

pub loop-name-preserved : goal.loop-name-preserved
loop-name-preserved g c =
    let o = queue_object c.in-Ok.table.shared.key.size c.in-Ok.table.shared.key.seats in
    let low = c.loop-name-test.true in
    let table = c.split_seat.ensures.3 ∙ c.loop-name.invariant.0 in
    let dealt = c.split_seat.ensures.4 ∙ dealt_is o (Alike Idle) c.args.stint c.loop-name.name c.args.seats c.loop-name.rest.id c.loop-name.rest.me (search rules) c.loop-name.invariant.1 in
    let ok : is_ok c.push.result ≡ true = c.is_err.ensures.negation ∙ ap not c.if-is_err.false in
    let added : c.push.new.self.items ≡ c.loop-name.dealt.items ++ queue_seat (object_id c.split_seat.result.table_id c.args.seats) c.loop-name.name c.args.stint c.split_seat.result.me ∷ [] = search (rules, ok) in
    let plus : c.loop-name.name ≡ 0 + c.loop-name.name = omega arith in (
      c.split_seat.ensures.0 ∙ c.loop-name.invariant.0,
      c.split_seat.ensures.2 ∙ kept_is o (Alike Idle) c.args.stint c.loop-name.name c.args.seats c.loop-name.rest.id c.loop-name.rest.me (search rules) c.loop-name.invariant.1,
      added ∙ ((λ i. c.loop-name.invariant.2 i ++ (fresh_queue_seat (object_id c.split_seat.result.table_id c.args.seats) c.loop-name.name c.args.stint c.split_seat.result.me dealt ∙ (λ j. seat_info (object_id (table j) c.args.seats) (plus j) c.args.stint [])) i ∷ [])
          ∙ sym (fresh_next (object_id c.in-Ok.table.shared.table_id c.args.seats) c.args.stint 0 c.loop-name.name)),
    )
