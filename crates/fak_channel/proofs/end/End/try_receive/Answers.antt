use Rattle.std.proofs.Math.Logic.{∥∥₁_elim}
use Rattle.fak_channel.proofs.OneProof.{seat_of_prop}
use Rattle.fak_channel.proofs.end.End.try_receive.Goals as goal

pub try_receive-requires : goal.try_receive-requires
try_receive-requires g c = ∥∥₁_elim c.args.self.now.of_channel (seat_of_prop c.args.self.now.channel.now c.args.self.now.seat) (λ h. h)
