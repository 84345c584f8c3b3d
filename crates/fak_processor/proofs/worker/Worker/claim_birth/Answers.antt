use Rattle.fak_processor.proofs.Common.{arith, common_steps}
use Rattle.fak_processor.proofs.OnlyCounts.{claims, finds_full}
use Rattle.fak_processor.proofs.Moving.{gains_births, refused_grows}
use Rattle.fak_processor.proofs.Machines.{is_born, has_no_birth}
use Rattle.fak_processor.proofs.worker.Worker.claim_birth.Goals as goal

pub returns-in-Ok-clause-alone : goal.returns-in-Ok-clause-alone
returns-in-Ok-clause-alone g c =
    rw (← c.self.view_is, ← c.seats.view_is) (λ alone. is_born _ alone c.objects.invariant.1 (claims alone.births c.in-Ok.ensures.call c.in-Ok.ensures.held))

pub returns-in-Err-AtBound-clause-alone : goal.returns-in-Err-AtBound-clause-alone
returns-in-Err-AtBound-clause-alone g c =
    let call = rw c.in-Err-AtBound.field-0-is at c.in-Err-AtBound.ensures.call in let held = c.in-Err-AtBound.ensures.held in
    rw (← c.self.view_is, ← c.seats.view_is) (λ alone. has_no_birth _ alone c.objects.invariant.1 (finds_full alone.births call.1 (omega (arith, held))))

pub returns-in-Err-AtBound-clause-gains : goal.returns-in-Err-AtBound-clause-gains
returns-in-Err-AtBound-clause-gains g c =
    let call = rw c.in-Err-AtBound.field-0-is at c.in-Err-AtBound.ensures.call in let grown = refused_grows call.1 in
    rw (← c.self.view_is, ← c.seats.view_is) (grown.0, gains_births _ _ c.objects.invariant.1.births grown.1)

pub returns-in-Ok-clause-gains : goal.returns-in-Ok-clause-gains
returns-in-Ok-clause-gains g c = grind (arith, common_steps)
