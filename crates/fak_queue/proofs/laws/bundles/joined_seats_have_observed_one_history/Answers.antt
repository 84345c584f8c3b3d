use Rattle.fak_queue.proofs.BundleJoins.{joined_know}
use Rattle.fak_queue.proofs.Common.{refl}
use Rattle.fak_queue.proofs.Sums.{seats_balance}
use Rattle.fak_queue.proofs.laws.bundles.joined_seats_have_observed_one_history.Goals as goal

pub returns-clause-known : goal.returns-clause-known
returns-clause-known g c = λ size seats tally joined. joined_know seats tally joined

pub returns-clause-balance : goal.returns-clause-balance
returns-clause-balance g c = λ size seats tally joined all whole own lawful w. seats_balance w joined refl all whole own lawful refl
