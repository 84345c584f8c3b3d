use Rattle.std.proofs.Common.{◌+◌, ap, arith, refl}
use Rattle.std.specs.Prelude.{◌%◌, ◌^◌}
use Rattle.fak_handles.proofs.bundle.seat.BundleDesk.try_take.Goals as goal

pub returns-clause-call : goal.returns-clause-call
returns-clause-call c =
    let fetch = c.in_ok-left.ensures.call in
    let still = fetch.left_is in
    let len = c.len.ensures in
    let long = c.hand_out-taken.new.held.ok.0 in
    record {
      mid = c.fetch.new.self;
      still = c.in_ok-left.left;
      fetch = fetch;
      taken_is = c.hand_out-taken.ensures.many;
      places_are = c.hand_out-taken.ensures.items;
      held_is = c.hand_out-taken.ensures.held;
      bundle_is = refl;
      next_is = ap (λ n. (n + c.hand_out-taken.result) % 2 ^ 64) fetch.next_is;
      left_is = omega (arith, still, len, long);
    }
