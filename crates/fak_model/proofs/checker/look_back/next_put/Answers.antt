use Rattle.fak_model.proofs.Common.{reverse, ◌∙◌, ap, sym, take_all, count, puts}
use Rattle.fak_model.proofs.CheckerPast.{item_at_put, item_none}
use Rattle.fak_model.proofs.checker.look_back.next_put.Goals as goal

pub returns-in-Put : goal.returns-in-Put
returns-in-Put c =
    let at = item_at_put c.args.past.now c.loop-i.i _ c.in-Put.x _ c.loop-i-test.true c.in-Put.is c.loop-i.invariant in
    record { inside = c.loop-i-test.true; item = at.0; behind = at.1 }

pub returns : goal.returns
returns c = item_none _ _ (ap (λ h. count puts (reverse h)) (sym (take_all c.loop-i.i c.args.past.now c.loop-i-test.false)) ∙ c.loop-i.invariant)
