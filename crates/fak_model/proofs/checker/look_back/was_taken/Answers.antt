use Rattle.fak_model.proofs.Common.{◌<◌, ◌-◌, ◌∙◌, ap, length, arith, refl, Take}
use Rattle.fak_model.proofs.CheckerPast.{has_at}
use Rattle.fak_model.proofs.checker.look_back.was_taken.Goals as goal

pub returns-then-k-ticket : goal.returns-then-k-ticket
returns-then-k-ticket c =
    let within : c.loop-i.i - 1 < length c.args.past.now = omega arith in
    (λ t. has_at (Take c.args.ticket) c.args.past.now (c.loop-i.i - 1) _ within (c.in-Take.is ∙ ap Take c.if-k-ticket.true), λ h. refl)
