use Rattle.std.proofs.Common.{◌≡◌, ◌+◌, ◌*◌, ap, sym, subst, arith, ◌∙◌, length, length-set, refl}
use Rattle.std.specs.Prelude.{ℕ, List}
use Rattle.std.specs.Arc.{arc_value}
use Rattle.std.specs.List.{All}
use Rattle.fak_model.specs.declared.queue.Mark.{Mark}
use Rattle.fak_model.specs.Calls.{SeatInfo, fresh_seats}
use Rattle.fak_queue.specs.Queues.{IsIdleSeat}
use Rattle.fak_handles.specs.bundle.Opening.{IsBundleDesk, IsFreshBundle}
use Rattle.fak_handles.proofs.BundleSeating.{fresh_idle, next_dealt}
use Rattle.fak_handles.proofs.Seating.{seated_next}
use Rattle.fak_handles.proofs.bundle.opening.seat_bundles.Goals as goal

pub loop-i-init : goal.loop-i-init
loop-i-init c =
    let first : c.args.first ≡ c.args.first + 0 * c.args.width = omega arith in (
      refl,
      (λ name d low. absurd (omega (arith, low))),
      (length c.args.handles.now * c.args.width, c.requires.fresh ∙ ap (λ k. fresh_seats {M = Mark ℕ} (arc_value c.args.queue.now).object c.args.stint k (length c.args.handles.now * c.args.width)) first),
    )

pub bundle_desk-requires-clause-idle : goal.bundle_desk-requires-clause-idle
bundle_desk-requires-clause-idle c =
    let object = (arc_value c.args.queue.now).object in
    let name = c.args.first + c.loop-i.i * c.args.width in
    let next = next_dealt c.in-Some.own.items c.next_seats.new.rest.rest.items c.loop-i.rest.rest.items object c.args.stint c.args.first c.args.width c.loop-i.i _ c.loop-i.invariant.2.1 c.in-Some.ensures.1 c.in-Some.ensures.0 in
    subst (All (IsIdleSeat {T = ℕ} object)) (sym next.0) (fresh_idle object c.args.stint name c.args.width)

pub loop-i-preserved : goal.loop-i-preserved
loop-i-preserved c =
    let queue = arc_value c.args.queue.now in
    let next = next_dealt c.in-Some.own.items c.next_seats.new.rest.rest.items c.loop-i.rest.rest.items queue.object c.args.stint c.args.first c.args.width c.loop-i.i _ c.loop-i.invariant.2.1 c.in-Some.ensures.1 c.in-Some.ensures.0 in
    let long = c.loop-i.invariant.0 in
    let low = c.loop-i-test.true in (
      length-set c.loop-i.handles c.loop-i.i c.put.new.self ∙ long,
      seated_next (IsFreshBundle queue c.args.stint c.args.first c.args.width) c.loop-i.i c.loop-i.handles c.put.new.self (omega (arith, long, low)) c.loop-i.invariant.1
          (record {
            desk = c.in-Some-bundle_desk.desk.value;
            held = c.put.ensures;
            fresh = subst (λ (l : List (SeatInfo (Mark ℕ))). IsBundleDesk queue l c.in-Some-bundle_desk.desk.value) next.0 c.in-Some-bundle_desk.ensures;
          }),
      (_, next.1),
    )
