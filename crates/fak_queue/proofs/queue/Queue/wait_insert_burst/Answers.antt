use Rattle.fak_queue.specs.BurstCalls.{RefusesBurst}
use Rattle.fak_queue.proofs.BundleRetries.{first_try, full_again, inserts_after, puts_then}
use Rattle.fak_queue.proofs.Common.{◌∙◌, length, refl, subst}
use Rattle.fak_queue.proofs.queue.Queue.wait_insert_burst.Goals as goal

pub loop-init : goal.loop-init
loop-init g c = (first_try c.args.self.now.size c.args.self.now.object c.args.items.now.items c.args.bundle.now c.requires.object c.requires.idle, refl)

pub loop-preserved : goal.loop-preserved
loop-preserved g c =
    let e = c.in-Err-Full.ensures in
    let refused = subst (RefusesBurst c.args.self.now.size (length c.loop.items.items) c.loop.bundle c.insert_burst.new.bundle) c.in-Err-Full.field-0-is e.call in (
      full_again c.args.self.now.size c.args.self.now.object c.args.items.now.items c.loop.items.items c.args.bundle.now c.loop.bundle c.insert_burst.new.bundle c.loop.invariant.0 c.in-Err-Full.field-0-0 c.insert_burst.new.items.items refused c.insert_burst.ensures.object c.insert_burst.ensures.state e.left e.items c.insert_burst.ensures.sums,
      c.insert_burst.ensures.capacity ∙ c.loop.invariant.1,
    )

pub returns-in-Ok-clause-call : goal.returns-in-Ok-clause-call
returns-in-Ok-clause-call g c = inserts_after c.args.self.now.size c.args.self.now.object c.args.items.now.items c.loop.items.items c.args.bundle.now c.loop.bundle c.insert_burst.new.bundle c.loop.invariant.0 _ _ c.in-Ok.ensures.call

pub returns-in-Ok-clause-sums : goal.returns-in-Ok-clause-sums
returns-in-Ok-clause-sums g c = puts_then c.args.items.now.items c.loop.items.items c.insert_burst.new.items.items c.args.bundle.now c.loop.bundle c.insert_burst.new.bundle c.loop.invariant.0.sums c.insert_burst.ensures.sums
