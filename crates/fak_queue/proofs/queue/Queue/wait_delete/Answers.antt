use Rattle.fak_queue.proofs.Common.{◌∙◌, subst, RefusesDeletion}
use Rattle.fak_queue.proofs.AfterRefusals.{deleted_after, empty_again}
use Rattle.fak_queue.proofs.queue.Queue.wait_delete.Goals as goal

pub returns-in-Ok-clause-call : goal.returns-in-Ok-clause-call
returns-in-Ok-clause-call g c = deleted_after c.loop.invariant.so_far c.in-Ok.ensures.call

pub loop-preserved : goal.loop-preserved
loop-preserved g c =
    let was = c.loop.invariant in
    let refused = subst (RefusesDeletion c.args.self.now.size c.loop.seat c.delete.new.seat) c.in-Err-Empty.field-0-is c.in-Err-Empty.ensures.call in
    record {
      fits = c.delete.ensures.object ∙ was.fits;
      same_object = c.delete.ensures.object ∙ was.same_object;
      idle = c.delete.ensures.state;
      so_far = empty_again was.so_far refused.0 c.in-Err-Empty.ensures.left refused.1;
    }
