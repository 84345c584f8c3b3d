use Rattle.std.proofs.Common.{rules, refl}
use Rattle.example_backpressure.proofs.Counting.{inserts}
use Rattle.example_backpressure.proofs.channel.Ends.put.Goals as goal
use Rattle.example_backpressure.proofs.channel.Ends.put.Goals.{in-Ok, in-Err}

pub returns-clause-moves : goal.returns-clause-moves
returns-clause-moves g c = elim c.match-wait_insert.branch [
  | in-Ok w ↦ λ yes. inserts c.args.self.now _ w.in-Ok.ensures.call refl
  | in-Err w ↦ λ yes. absurd (search (rules, w.result-is, yes))
]
