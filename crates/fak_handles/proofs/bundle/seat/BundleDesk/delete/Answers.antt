use Rattle.std.proofs.Common.{subst, length}
use Rattle.fak_handles.specs.bundle.Calls.{AsksToDeleteBurst}
use Rattle.fak_handles.proofs.bundle.seat.BundleDesk.delete.Goals as goal

pub returns-in-Some-clause-call : goal.returns-in-Some-clause-call
returns-in-Some-clause-call c =
    let mid = c.claim_delete.new.self in
    record {
      mid = mid;
      left = c.in-Some.field-0-1;
      claim = subst (λ r. AsksToDeleteBurst (length c.args.places.now) r c.args.self.now mid) c.in-Some-Ok.field-0-is c.in-Some-Ok.ensures.call;
      try = c.in-Some.ensures.call;
    }
