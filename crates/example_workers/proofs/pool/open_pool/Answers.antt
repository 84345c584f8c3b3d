use Rattle.std.proofs.Common.{◌+◌, ◌^◌, Some, length, arith, ap, ◌∙◌, subst, sym}
use Rattle.std.specs.List.{All}
use Rattle.std.proofs.lemmas.List.Elements.{All-pop}
use Rattle.fak_model.specs.declared.queue.Mark.{Mark}
use Rattle.fak_model.proofs.FreshSeats.{length-fresh_seats}
use Rattle.example_workers.specs.declared.work.Work.{Work}
use Rattle.example_workers.specs.Counts.{IsFresh}
use Rattle.example_workers.proofs.Counting.{all_fresh}
use Rattle.example_workers.proofs.pool.open_pool.Goals as goal

pub returns-clause-seat : goal.returns-clause-seat
returns-clause-seat c =
    let object = c.in-Ok.queue.object in
    let all = subst (All (IsFresh object)) (sym c.in-Ok.ensures.3) (all_fresh object 0 (c.args.workers + 1)) in
    (All-pop (IsFresh object) _ _ (Some c.in-Some.seat) c.in-Some.ensures.items all).1.stands

pub returns-clause-others : goal.returns-clause-others
returns-clause-others c =
    let object = c.in-Ok.queue.object in
    let all = subst (All (IsFresh object)) (sym c.in-Ok.ensures.3) (all_fresh object 0 (c.args.workers + 1)) in
    let long = ap length c.in-Ok.ensures.3 ∙ length-fresh_seats (Mark Work) object (2 ^ 40) 0 (c.args.workers + 1) in
    (omega (arith, long, c.in-Ok.seats.ok, c.in-Some.ensures.cases), (All-pop (IsFresh object) _ _ (Some c.in-Some.seat) c.in-Some.ensures.items all).0)
