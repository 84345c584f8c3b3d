use Rattle.std.proofs.Common.{◌≡◌, ◌≤◌, ℕ, List, ap, sym, subst, arith, rules, ◌∙◌, length}
use Rattle.std.specs.Arc.{arc_value}
use Rattle.fak_queue.specs.declared.bundle.BundleState.TheVariants.{Inserting}
use Rattle.fak_queue.specs.BurstCalls.{TriesToFill}
use Rattle.fak_queue.specs.Queues.{QueueInfo}
use Rattle.fak_handles.specs.bundle.Open.{open_in}
use Rattle.fak_handles.proofs.Bursting.{goes_on_kept, filled_width}
use Rattle.fak_handles.proofs.bundle.seat.BundleDesk.try_fill.Goals as goal

pub invariant_of-self : goal.invariant_of-self
invariant_of-self c =
    let d = c.args.self.now in
    let is : d.bundle.state ≡ Inserting c.in-Inserting.ticket c.in-Inserting.ended c.in-Inserting.granted = sym c.in-Inserting.ensures.value in
    let t = c.try_fill_burst.ensures.call c.in-Inserting.ticket c.in-Inserting.ended c.in-Inserting.granted is in
    let names = ap (λ (l : List ℕ). length l) (goes_on_kept t.fills.goes_on) in
    let held = d.none c.in-Inserting.ticket c.in-Inserting.ended c.in-Inserting.granted is in
    let none = ap (λ (l : List ℕ). length l) held in
    let was = d.burst in
    let low = filled_width is t (let few : open_in d.bundle.state ≤ length d.bundle.names = omega (arith, was) in few) in
    let some = d.some in
    let wide = d.wide in
    record { same = c.try_fill_burst.ensures.object ∙ d.same; some = omega (arith, names, some); wide = omega (arith, names, wide); burst = omega (arith, names, low, none); none = λ k f g at. held }

pub returns-in-Inserting-clause-call : goal.returns-in-Inserting-clause-call
returns-in-Inserting-clause-call c =
    let d = c.args.self.now in
    let is : d.bundle.state ≡ Inserting c.in-Inserting.ticket c.in-Inserting.ended c.in-Inserting.granted = sym c.in-Inserting.ensures.value in
    let t = c.try_fill_burst.ensures.call c.in-Inserting.ticket c.in-Inserting.ended c.in-Inserting.granted is in
    let queue : c.deref.result.now ≡ arc_value d.queue = search rules in
    record {
      ticket = c.in-Inserting.ticket;
      ended = c.in-Inserting.ended;
      granted = c.in-Inserting.granted;
      inserting = is;
      none = d.none c.in-Inserting.ticket c.in-Inserting.ended c.in-Inserting.granted is;
      left_is = c.try_fill_burst.ensures.left;
      call = subst (λ (q : QueueInfo). TriesToFill q.size c.in-Inserting.ticket c.in-Inserting.ended c.in-Inserting.granted c.try_fill_burst.result d.bundle c.try_fill_burst.new.bundle) queue t;
    }
