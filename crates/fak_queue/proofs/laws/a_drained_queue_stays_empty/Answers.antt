use Rattle.fak_queue.proofs.Draining.{drained_claims, drained_gone, drained_later}
use Rattle.fak_queue.proofs.laws.a_drained_queue_stays_empty.Goals as goal

pub returns-clause-claims : goal.returns-clause-claims
returns-clause-claims g c = drained_claims

pub returns-clause-gone : goal.returns-clause-gone
returns-clause-gone g c = drained_gone

pub returns-clause-later : goal.returns-clause-later
returns-clause-later g c = drained_later
