use Rattle.std.proofs.Common.{arith, ap, sym, ◌∙◌, length-set, Some}
use Rattle.std.specs.Arc.{arc_value}
use Rattle.fak_handles.specs.declared.desk.Desk.TheVariants.{Semaphore}
use Rattle.fak_handles.specs.Openings.{IsFreshSem}
use Rattle.fak_handles.proofs.Seating.{seated_next, next_sem}
use Rattle.fak_handles.proofs.semaphore.opening.seat_semaphore.Goals as goal

pub of-desk-requires : goal.of-desk-requires
of-desk-requires c =
    let next = next_sem c.loop-i-test.true c.loop-i.invariant.2 c.in-Some.ensures.cases.0 in
    record { same = ap (λ s. s.object) c.of.ensures.seat ∙ ap (λ s. s.object) next.first ∙ ap (λ q. q.object) (sym c.in-Ok.ensures) }

pub loop-i-preserved : goal.loop-i-preserved
loop-i-preserved c =
    let next = next_sem c.loop-i-test.true c.loop-i.invariant.2 c.in-Some.ensures.cases.0 in
    let long = c.loop-i.invariant.0 in
    let low = c.loop-i-test.true in (
      length-set c.loop-i.handles c.loop-i.i c.put.new.self ∙ long,
      seated_next (IsFreshSem (arc_value c.args.semaphore.now) c.args.stint) c.loop-i.i c.loop-i.handles c.put.new.self (omega (arith, long, low)) c.loop-i.invariant.1
          (record {
            desk = Semaphore c.of-desk.result;
            held = c.put.ensures ∙ ap (λ d. Some d) c.in-Ok-new.ensures.ok;
            fresh = (c.of-desk.ensures.object ∙ c.in-Ok.ensures, ap (λ s. s.standing) c.of-desk.ensures.seat ∙ c.of.ensures.idle, ap (λ s. s.seat) c.of-desk.ensures.seat ∙ (c.of.ensures.seat ∙ next.first));
          }),
      next.others,
    )
