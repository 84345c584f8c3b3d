use Rattle.fak_queue.specs.BurstCalls.{InsertsBurst}
use Rattle.fak_queue.proofs.BundleSums.{insertion_puts}
use Rattle.fak_queue.proofs.BundleCalls.{inserts_burst}
use Rattle.fak_queue.proofs.Common.{subst}
use Rattle.fak_queue.proofs.queue.Queue.insert_burst.Goals as goal

pub returns-in-Ok-clause-call : goal.returns-in-Ok-clause-call
returns-in-Ok-clause-call g c = subst (λ b. InsertsBurst c.args.self.now.size c.args.items.now.items c.in-Ok.burst.ticket c.in-Ok.burst.count b c.fill_claimed.new.bundle) c.bundle.view_is (inserts_burst _ _ _ _ _ _ c.in-Ok.ensures.call (c.fill_claimed.ensures.call _ _ c.in-Ok.ensures.state))

pub returns-in-Ok-clause-sums : goal.returns-in-Ok-clause-sums
returns-in-Ok-clause-sums g c = insertion_puts _ _ _ _ _ _ (returns-in-Ok-clause-call g c) c.in-Ok.ensures.items
