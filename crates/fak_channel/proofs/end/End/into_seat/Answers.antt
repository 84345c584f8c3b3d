use Rattle.std.proofs.Math.Logic.{∥∥₁_elim}
use Rattle.fak_channel.proofs.OneProof.{seat_of_prop}
use Rattle.fak_channel.proofs.end.End.into_seat.Goals as goal

pub returns-clause-of_channel : goal.returns-clause-of_channel
returns-clause-of_channel g c = ∥∥₁_elim c.args.self.of_channel (seat_of_prop c.args.self.channel.now c.args.self.seat) (λ h. h)
