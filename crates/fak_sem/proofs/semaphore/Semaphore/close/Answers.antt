use Rattle.fak_sem.proofs.Common.{ap, sym, ◌∙◌, subst, SemInfo, SemTallyInfo}
use Rattle.fak_model.specs.Seats.{IsWhole}
use Rattle.fak_sem.proofs.Joining.{tally_whole, tally_settled, whole_queue, settled}
use Rattle.fak_sem.proofs.semaphore.Semaphore.close.Goals as goal

pub close-requires-clause-whole : goal.close-requires-clause-whole
close-requires-clause-whole g c =
    let whole = tally_whole c.tally.inside.queue c.tally.view_is c.requires.object c.requires.whole in
    let same = ap (λ (t : SemTallyInfo g.row.T.Denot). t.object.queue.seats) c.tally.view_is ∙ (ap (λ o. o.queue.seats) c.requires.object ∙ ap (λ (s : SemInfo). s.object.queue.seats) (sym c.self.view_is)) in
    subst (λ seats. IsWhole seats c.tally.inside.queue.names) same (whole_queue c.tally.invariant whole)

pub returns-clause-settled : goal.returns-clause-settled
returns-clause-settled g c =
    let whole = tally_whole c.tally.inside.queue c.tally.view_is c.requires.object c.requires.whole in
    tally_settled c.tally.inside.queue c.tally.view_is c.requires.object (settled c.tally.invariant whole)
