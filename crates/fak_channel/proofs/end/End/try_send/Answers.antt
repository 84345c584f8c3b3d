use Rattle.std.proofs.Math.Logic.{∥∥₁_elim}
use Rattle.fak_channel.proofs.OneProof.{seat_of_prop}
use Rattle.fak_channel.proofs.end.End.try_send.Goals as goal

pub try_send-requires : goal.try_send-requires
try_send-requires g c = ∥∥₁_elim c.args.self.now.of_channel (seat_of_prop c.args.self.now.channel.now c.args.self.now.seat) (λ h. h)
