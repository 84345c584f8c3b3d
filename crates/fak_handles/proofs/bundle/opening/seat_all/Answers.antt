use Rattle.std.proofs.Common.{◌*◌, subst, refl, ◌∙◌, length}
use Rattle.std.specs.Prelude.{ℕ}
use Rattle.std.specs.Arc.{arc_value}
use Rattle.fak_handles.specs.bundle.Opening.{IsFreshBundle}
use Rattle.fak_handles.specs.Openings.{AreSeatedBelow}
use Rattle.fak_handles.proofs.BundleSeating.{first_dealt}
use Rattle.fak_handles.proofs.bundle.opening.seat_all.Goals as goal

pub seat_queue-requires : goal.seat_queue-requires
seat_queue-requires c = (first_dealt c.in-Some.own.items c.next_seats.new.rest.rest.items c.into_iter-rest.result.rest.items (arc_value c.args.queue.now).object c.args.stint (length c.args.seats.now) (length c.args.seats.now) (length c.args.bundles.now * c.args.width)
    (c.into_iter-rest.ensures.rest ∙ c.requires.fresh) c.in-Some.ensures.1 c.in-Some.ensures.0 refl).0

pub seat_bundles-requires-clause-fresh : goal.seat_bundles-requires-clause-fresh
seat_bundles-requires-clause-fresh c = (first_dealt c.in-Some.own.items c.next_seats.new.rest.rest.items c.into_iter-rest.result.rest.items (arc_value c.args.queue.now).object c.args.stint (length c.args.seats.now) (length c.seat_queue.new.handles) (length c.args.bundles.now * c.args.width)
    (c.into_iter-rest.ensures.rest ∙ c.requires.fresh) c.in-Some.ensures.1 c.in-Some.ensures.0 c.seat_queue.ensures.len).1

pub returns-clause-seated : goal.returns-clause-seated
returns-clause-seated c = λ made. c.seat_queue.ensures.seated c.if-not-seat_queue.false

pub returns-clause-bundled : goal.returns-clause-bundled
returns-clause-bundled c = λ made.
    subst (λ (n : ℕ). AreSeatedBelow (IsFreshBundle (arc_value c.args.queue.now) c.args.stint n c.args.width) (length c.args.bundles.now) c.seat_bundles.new.handles) c.seat_queue.ensures.len (c.seat_bundles.ensures.seated made)
