use Rattle.fak_files.proofs.Common.{◌∙◌, subst, IsRefused}
use Rattle.fak_files.proofs.Waits.{tries_more, tries_granted}
use Rattle.fak_files.proofs.table.FileTable.wait_hold.Goals as goal

pub returns-in-Ok-clause-call : goal.returns-in-Ok-clause-call
returns-in-Ok-clause-call g c = tries_granted c.args.access c.args.seat.now c.loop.seat c.try_hold.new.seat c.loop.invariant.0 c.in-Ok.ensures.call

pub loop-preserved : goal.loop-preserved
loop-preserved g c =
    let busy = subst (λ e. IsRefused c.args.access c.loop.seat c.try_hold.new.seat e) c.in-Err-Busy.field-0-is c.in-Err-Busy.ensures.call in (
      tries_more c.args.access c.args.seat.now c.loop.seat c.try_hold.new.seat _ c.loop.invariant.0 busy,
      c.in-Err-Busy.ensures.object,
      busy.hold ∙ c.loop.invariant.2,
    )
