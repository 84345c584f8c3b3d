use Rattle.std.proofs.Common.{subst}
use Rattle.fak_handles.specs.bundle.Calls.{AsksToInsertBurst}
use Rattle.fak_handles.proofs.bundle.seat.BundleDesk.insert.Goals as goal

pub returns-in-Some-clause-call : goal.returns-in-Some-clause-call
returns-in-Some-clause-call c =
    let mid = c.claim_insert.new.self in
    record {
      mid = mid;
      claim = subst (λ r. AsksToInsertBurst c.args.items.now r c.args.self.now mid) c.in-Some-Ok.field-0-is c.in-Some-Ok.ensures.call;
      try = c.in-Some.ensures.call;
    }
