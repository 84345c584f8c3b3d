use Rattle.std.proofs.Common.{arith, ap, sym, ◌∙◌, length-set, Some}
use Rattle.std.specs.Arc.{arc_value}
use Rattle.fak_handles.specs.declared.desk.Desk.TheVariants.{Queue}
use Rattle.fak_handles.specs.Openings.{IsFreshQueue}
use Rattle.fak_handles.proofs.Seating.{seated_next}
use Rattle.fak_model.proofs.FreshSeats.{next_seat}
use Rattle.fak_handles.proofs.queue.opening.seat_queue.Goals as goal

pub of-desk-requires : goal.of-desk-requires
of-desk-requires c =
    let next = next_seat c.loop-i-test.true c.loop-i.invariant.2 c.in-Some.ensures.cases.0 in
    record { same = ap (λ s. s.object) next.first ∙ ap (λ q. q.object) (sym c.in-Ok.ensures) }

pub loop-i-preserved : goal.loop-i-preserved
loop-i-preserved c =
    let next = next_seat c.loop-i-test.true c.loop-i.invariant.2 c.in-Some.ensures.cases.0 in
    let long = c.loop-i.invariant.0 in
    let low = c.loop-i-test.true in (
      length-set c.loop-i.handles c.loop-i.i c.put.new.self ∙ long,
      seated_next (IsFreshQueue (arc_value c.args.queue.now) c.args.stint) c.loop-i.i c.loop-i.handles c.put.new.self (omega (arith, long, low)) c.loop-i.invariant.1
          (record {
            desk = Queue c.of-desk.result;
            held = c.put.ensures ∙ ap (λ d. Some d) c.in-Ok-new.ensures.ok;
            fresh = (c.of-desk.ensures.object ∙ c.in-Ok.ensures, c.of-desk.ensures.seat ∙ next.first);
          }),
      next.others,
    )
