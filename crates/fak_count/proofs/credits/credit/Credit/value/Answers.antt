use Rattle.fak_count.proofs.Common.{rules, ◌∙◌, w64, to_z-of_z}
use Rattle.fak_count.proofs.CreditCalls.{call_observed}
use Rattle.fak_count.proofs.credits.credit.Credit.value.Goals as goal

pub returns-clause-call : goal.returns-clause-call
returns-clause-call c = call_observed c.self.inside.table.shared.key c.seat.invariant c.seat.view_is c.self.view_is c.requires.object c.observe-found.ensures.told.told c.observe-found.ensures.told.same (to_z-of_z {w = w64} (search rules) ∙ c.count_of.ensures.difference)
