use Rattle.fak_queue.specs.BurstCalls.{RefusesBurstOut}
use Rattle.fak_queue.proofs.BundleRetries.{empty_again, first_try_out, gets_then}
use Rattle.fak_queue.proofs.Common.{◌∙◌, ap, length, refl, subst, sym}
use Rattle.fak_queue.proofs.queue.Queue.wait_delete_burst.Goals as goal

pub loop-init : goal.loop-init
loop-init g c = (first_try_out c.args.self.now.size c.args.most c.args.self.now.object c.args.out.now.items c.args.bundle.now c.requires.object c.requires.idle, refl, refl)

pub returns-in-Ok-clause-sums : goal.returns-in-Ok-clause-sums
returns-in-Ok-clause-sums g c = gets_then c.args.out.now.items c.loop.out.items c.delete_burst.new.out.items c.args.bundle.now c.loop.bundle c.delete_burst.new.bundle c.loop.invariant.0.sums c.delete_burst.ensures.sums

pub loop-preserved : goal.loop-preserved
loop-preserved g c =
    let e = c.in-Err-Empty.ensures in
    let i = c.loop.invariant in
    let refused = subst (RefusesBurstOut c.args.self.now.size c.args.most c.loop.bundle c.delete_burst.new.bundle) c.in-Err-Empty.field-0-is e.call in (
      empty_again c.args.self.now.size c.args.most c.args.self.now.object c.args.out.now.items c.loop.out.items c.args.bundle.now c.loop.bundle c.delete_burst.new.bundle i.0 c.in-Err-Empty.field-0-0 c.delete_burst.new.out.items refused c.delete_burst.ensures.object c.delete_burst.ensures.state e.left e.len c.delete_burst.ensures.sums,
      c.delete_burst.ensures.capacity ∙ i.1,
      c.delete_burst.new.out.ok.0 ∙ (ap length e.len ∙ (sym c.loop.out.ok.0 ∙ i.2)),
    )
