use Rattle.fak_model.proofs.CheckerFaults.{fault_at, all_legal}
use Rattle.fak_model.proofs.checker.first_fault.Goals as goal

pub returns-then-not-may_follow : goal.returns-then-not-may_follow
returns-then-not-may_follow c = fault_at c.args.size c.args.marks.now c.loop-i.i _ c.loop-i-test.true c.loop-i.invariant.legal (λ may. absurd (cc (c.may_follow.ensures.1 may)))

pub returns : goal.returns
returns c = all_legal c.args.size c.args.marks.now c.loop-i.i c.loop-i-test.false c.loop-i.invariant.legal
