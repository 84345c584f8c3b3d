use Rattle.std.specs.Prelude.{IfSome}
use Rattle.std.proofs.Common.{subst}
use Rattle.std.proofs.lemmas.List.Elements.{All-pop}
use Rattle.fak_channel.specs.Standings.{IsSeatOf}
use Rattle.fak_channel_tests.proofs.openings.take_seat.Goals as goal

pub returns-clause-seat : goal.returns-clause-seat
returns-clause-seat g c = subst (λ o. IfSome o (IsSeatOf c.args.channel.now)) c.expect.ensures (All-pop (IsSeatOf c.args.channel.now) _ _ _ c.pop.ensures.items c.requires).1
