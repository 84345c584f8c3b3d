use Rattle.std.proofs.Common.{refl}
use Rattle.example_backpressure.proofs.Counting.{deletes}
use Rattle.example_backpressure.proofs.channel.Ends.receive.Goals as goal

pub returns-in-Ok-clause-moves : goal.returns-in-Ok-clause-moves
returns-in-Ok-clause-moves g c = deletes c.args.self.now _ c.in-Ok.ensures.call refl
