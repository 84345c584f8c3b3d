use Rattle.std.proofs.Math.Logic.{∥∥₁_elim}
use Rattle.fak_channel.proofs.OneProof.{seat_of_prop}
use Rattle.fak_channel.proofs.end.End.receive.Goals as goal

pub receive-requires : goal.receive-requires
receive-requires g c = ∥∥₁_elim c.args.self.now.of_channel (seat_of_prop c.args.self.now.channel.now c.args.self.now.seat) (λ h. h)
