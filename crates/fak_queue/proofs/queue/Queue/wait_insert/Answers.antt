use Rattle.fak_queue.proofs.Common.{InsertsAfterFull, RefusesInsertion, ◌∙◌, subst}
use Rattle.fak_queue.proofs.AfterRefusals.{inserted_after, closed_after, full_again}
use Rattle.fak_queue.proofs.queue.Queue.wait_insert.Goals as goal

pub returns-in-Ok-clause-call : goal.returns-in-Ok-clause-call
returns-in-Ok-clause-call g c =
    let was = c.loop.invariant in
    subst (λ (x : g.row.T.Denot). InsertsAfterFull c.args.self.now.size c.in-Ok.ticket x c.args.seat.now c.insert.new.seat) was.1 (inserted_after was.0.so_far c.in-Ok.ensures.call)

pub returns-in-Err-Closed-clause-call : goal.returns-in-Err-Closed-clause-call
returns-in-Err-Closed-clause-call g c =
    let was = c.loop.invariant in
    let refused = subst (RefusesInsertion c.args.self.now.size c.loop.waiting c.loop.seat c.insert.new.seat) c.in-Err-Closed.field-0-is c.in-Err-Closed.ensures.call in
    (refused.0 ∙ was.1, closed_after was.0.so_far refused.1 refused.2)

pub loop-preserved : goal.loop-preserved
loop-preserved g c =
    let was = c.loop.invariant in
    let refused = subst (RefusesInsertion c.args.self.now.size c.loop.waiting c.loop.seat c.insert.new.seat) c.in-Err-Full.field-0-is c.in-Err-Full.ensures.call in (
      record {
        fits = c.insert.ensures.object ∙ was.0.fits;
        same_object = c.insert.ensures.object ∙ was.0.same_object;
        idle = c.insert.ensures.state;
        so_far = full_again was.0.so_far refused.1 c.in-Err-Full.ensures.left refused.2;
      },
      refused.0 ∙ was.1,
    )
