use Rattle.std.proofs.Common.{subst}
use Rattle.fak_model.specs.Calls.{ObjectId}
use Rattle.fak_model.specs.Seats.{IsWhole}
use Rattle.fak_queue_tests.proofs.waits.close_counted.Goals as goal

pub close-requires-clause-whole : goal.close-requires-clause-whole
close-requires-clause-whole c =
    let whole = c.is_whole-whole.ensures.whole.0 c.if-whole.true in
    subst (λ (o : ObjectId). IsWhole o.seats c.args.tally.names) c.requires whole
