use Rattle.fak_queue.specs.BurstCalls.{DeletesBurst, GetsInto}
use Rattle.fak_queue.proofs.BundleSums.{deletion_gets, refused_gets}
use Rattle.fak_queue.proofs.BundleCallsOut.{deletes_burst}
use Rattle.fak_queue.proofs.Common.{◌-◌, ℕ, ◌≡◌, arith, refl, subst}
use Rattle.fak_queue.proofs.queue.Queue.delete_burst.Goals as goal

all_of : (n j : ℕ) → n ≡ j - 0 → n ≡ j
all_of n j e = omega (arith, e)

pub returns-in-Ok-clause-call : goal.returns-in-Ok-clause-call
returns-in-Ok-clause-call g c =
    let t = c.take_claimed.ensures.call _ _ c.in-Ok.ensures.state in
    (t.0, t.1, all_of _ _ t.2.many, subst (λ b. DeletesBurst c.args.self.now.size c.args.most t.0 c.in-Ok.burst.ticket b c.take_claimed.new.bundle) c.bundle.view_is (deletes_burst _ _ _ _ _ _ _ c.in-Ok.ensures.call t.2))

pub returns-in-Ok-clause-sums : goal.returns-in-Ok-clause-sums
returns-in-Ok-clause-sums g c = let t = returns-in-Ok-clause-call g c in deletion_gets c.args.most t.0 _ _ _ t.3 _ _ t.1

pub returns-in-Err-clause-sums : goal.returns-in-Err-clause-sums
returns-in-Err-clause-sums g c = subst (λ b. GetsInto c.args.out.now.items c.args.out.now.items b c.claim_delete_burst.new.bundle) c.bundle.view_is (refused_gets c.args.self.now.size c.args.most _ _ c.in-Err.fault _ _ c.in-Err.ensures.call refl)
