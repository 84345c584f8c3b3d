use Rattle.std.proofs.Common.{ap, ◌∙◌}
use Rattle.std.proofs.Math.Logic.{∥∥₁_elim, ∥∥₁_map}
use Rattle.fak_channel.specs.declared.standing.CallStanding.{CallStanding}
use Rattle.fak_channel.specs.Standings.{call_state}
use Rattle.fak_channel.proofs.OneProof.{stands_prop}
use Rattle.fak_channel.proofs.end.End.len.Goals as goal

pub step_len-requires : goal.step_len-requires
step_len-requires g c = ∥∥₁_elim c.args.self.now.of_channel (stands_prop c.args.self.now.channel.now c.args.self.now.seat) (λ h. h.stands)

pub invariant_of-self : goal.invariant_of-self
invariant_of-self g c = record {
  of_channel = ∥∥₁_map c.args.self.now.of_channel (λ h. record { stands = c.step_len.ensures.stands; idle = ap (λ (t : CallStanding g.row.T.Denot). call_state t.next) c.step_len.ensures.looks.same_call ∙ h.idle });
}
