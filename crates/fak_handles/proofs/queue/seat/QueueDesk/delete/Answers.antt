use Rattle.std.proofs.Common.{ap, sym, subst}
use Rattle.fak_handles.specs.queue.Calls.{AsksToDelete, item_of}
use Rattle.fak_handles.proofs.queue.seat.QueueDesk.delete.Goals as goal

pub returns-in-Some-None-clause-call : goal.returns-in-Some-None-clause-call
returns-in-Some-None-clause-call c = record {
  mid = c.claim_delete.new.self;
  answer = c.in-Some-None.field-0;
  claim = subst (λ r. AsksToDelete r c.args.self.now c.claim_delete.new.self) c.in-Some-Ok.field-0-is c.in-Some-Ok.ensures.call;
  try = c.in-Some-None.ensures.call;
  taken_is = sym (ap item_of c.in-Some-None.field-0-is);
}

pub returns-in-Some-Some-clause-call : goal.returns-in-Some-Some-clause-call
returns-in-Some-Some-clause-call c = record {
  mid = c.claim_delete.new.self;
  answer = c.in-Some-Some.field-0;
  claim = subst (λ r. AsksToDelete r c.args.self.now c.claim_delete.new.self) c.in-Some-Ok.field-0-is c.in-Some-Ok.ensures.call;
  try = c.in-Some-Some.ensures.call;
  taken_is = sym (ap item_of c.in-Some-Some.field-0-is);
}
