use Rattle.fak_sem.proofs.Common.{ap, sym, ◌∙◌, SemTallyInfo, SemSeatInfo}
use Rattle.fak_sem.proofs.Joining.{tally_joined}
use Rattle.fak_sem.proofs.semaphore.Semaphore.join.Goals as goal

pub invariant_of-result : goal.invariant_of-result
invariant_of-result g c =
    let same = ap (λ (x : SemSeatInfo g.row.T.Denot). x.object.start) c.seat.view_is ∙ (ap (λ o. o.start) (c.requires.object.1 ∙ sym c.requires.object.0) ∙ ap (λ (x : SemTallyInfo g.row.T.Denot). x.object.start) (sym c.tally.view_is)) in
    tally_joined c.tally.invariant c.seat.invariant same c.join.ensures.joined c.join-2.ensures.joined
