use Rattle.fak_sem.proofs.Common.{whole_mine, every_history}
use Rattle.fak_count.specs.Credits.{seat_of as credit_name}
use Rattle.fak_sem.proofs.Joining.{whole_credit, whole_queue, credit_rests}
use Rattle.fak_sem.proofs.tally.SemTally.is_whole.Goals as goal

pub returns-clause-whole : goal.returns-clause-whole
returns-clause-whole g c = rw (← c.self.view_is) ((λ t. whole_credit c.self.invariant (c.is_whole.ensures.whole.0 t)), (λ whole. c.is_whole.ensures.whole.1 (whole_queue c.self.invariant whole)))

pub returns-clause-credit : goal.returns-clause-credit
returns-clause-credit g c = rw (← c.self.view_is) (λ t.
    whole_mine credit_name c.self.inside.credit.object.seats c.self.inside.credit.names c.self.inside.credit.seen (whole_credit c.self.invariant (c.is_whole.ensures.whole.0 t)) c.self.invariant.credit_named)

pub returns-clause-lawful : goal.returns-clause-lawful
returns-clause-lawful g c = rw (← c.self.view_is) (every_history c.self.inside.credit.seen, c.is_whole.ensures.lawful)

pub returns-clause-credit_rest : goal.returns-clause-credit_rest
returns-clause-credit_rest g c = λ t. credit_rests c.args.self.now.credit_seen

pub returns-clause-queue_rest : goal.returns-clause-queue_rest
returns-clause-queue_rest g c = rw (← c.self.view_is) c.is_whole.ensures.rest
