use Rattle.fak_sem.proofs.Common.{◌∙◌, subst, InsertsAtLast}
use Rattle.fak_sem.proofs.WholeInsertions.{closed_again, inserted_at_last}
use Rattle.fak_sem.proofs.retries.insert_at_last.Goals as goal

pub returns-in_default-clause-call : goal.returns-in_default-clause-call
returns-in_default-clause-call g c =
    let made = c.in_default.ensures.call in
    subst (λ (x : g.row.T.Denot). InsertsAtLast c.args.queue.now.size x c.args.seat.now c.insert_unless_shut.new.seat) c.loop.invariant.1 (inserted_at_last c.loop.invariant.0 made.1)

pub loop-preserved : goal.loop-preserved
loop-preserved g c =
    let tried = c.in-Some-insert_unless_shut.ensures.call in
    (closed_again c.loop.invariant.0 c.requires.left c.insert_unless_shut.ensures.object c.insert_unless_shut.ensures.idle tried.1 tried.2, tried.0 ∙ c.loop.invariant.1)
