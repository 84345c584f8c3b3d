use Rattle.std.proofs.Common.{ap, sym, subst, is_some}
use Rattle.fak_handles.specs.queue.Calls.{AsksToInsert}
use Rattle.fak_handles.proofs.queue.seat.QueueDesk.insert.Goals as goal

pub returns-in-Some-None-clause-call : goal.returns-in-Some-None-clause-call
returns-in-Some-None-clause-call c = record {
  mid = c.claim_insert.new.self;
  answer = c.in-Some-None.field-0;
  claim = subst (λ r. AsksToInsert c.args.item r c.args.self.now c.claim_insert.new.self) c.in-Some-Ok.field-0-is c.in-Some-Ok.ensures.call;
  try = c.in-Some-None.ensures.call;
  filled_is = sym (ap is_some c.in-Some-None.field-0-is);
}

pub returns-in-Some-Some-clause-call : goal.returns-in-Some-Some-clause-call
returns-in-Some-Some-clause-call c = record {
  mid = c.claim_insert.new.self;
  answer = c.in-Some-Some.field-0;
  claim = subst (λ r. AsksToInsert c.args.item r c.args.self.now c.claim_insert.new.self) c.in-Some-Ok.field-0-is c.in-Some-Ok.ensures.call;
  try = c.in-Some-Some.ensures.call;
  filled_is = sym (ap is_some c.in-Some-Some.field-0-is);
}
