use Rattle.fak_processor.proofs.Common.{GrowsAtLast, ◌∙◌, subst, refl}
use Rattle.fak_processor.proofs.Moving.{idle_yet, shut_again, put_at_last}
use Rattle.fak_processor.proofs.OnlyQueues.{keeps_then}
use Rattle.fak_processor.proofs.worker.entering.put.Goals as goal

pub loop-preserved : goal.loop-preserved
loop-preserved g c =
    let e = rw c.in-Ok-Some.field-0-is at c.in-Ok-Some.ensures.only in (
      (tt, tt),
      c.in-Ok-Some.ensures.seat,
      (rw c.in-Ok-Some.field-0-is at c.in-Ok-Some.ensures.same) ∙ c.loop.invariant.2,
      shut_again c.loop.invariant.3 (rw c.in-Ok-Some.field-0-is at c.in-Ok-Some.ensures.grows),
      λ o. let k = c.loop.invariant.4 o in keeps_then k (e k.only).1.keeps,
    )

pub loop-init : goal.loop-init
loop-init g c = ((tt, tt), c.requires.seat, refl, idle_yet c.args.seat.now, λ o. record { only = o; items = refl; shut = refl })

pub returns-in-Ok-None-clause-grows : goal.returns-in-Ok-None-clause-grows
returns-in-Ok-None-clause-grows g c =
    let e = rw c.in-Ok-None.field-0-is at c.in-Ok-None.ensures.grows in
    subst (λ (x : g.row.T.Denot). GrowsAtLast c.args.queue.now.size x c.args.seat.now c.enter.new.seat) c.loop.invariant.2 (put_at_last c.loop.invariant.3 e)
