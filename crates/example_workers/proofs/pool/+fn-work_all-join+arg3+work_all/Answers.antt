use Rattle.std.proofs.Common.{◌≡◌, Some, arith, vec_len}
use Rattle.std.specs.List.{All}
use Rattle.std.proofs.lemmas.Bool.Decides.{nat_tests}
use Rattle.std.proofs.lemmas.List.Elements.{All-pop}
use Rattle.std.proofs.iter.Serving.{serving}
use Rattle.example_workers.specs.Counts.{IsFresh}
use Rattle.example_workers.proofs.Counting.{worked_first, worked_next}
use Rattle.example_workers.proofs.pool.+fn-work_all-join+arg3+work_all.Goals as goal

pub work-seat-requires : goal.work-seat-requires
work-seat-requires g t c = (All-pop (IsFresh c.args.queue.now.object) _ _ (Some c.in-Some.seat) c.in-Some.ensures.items c.requires.fresh).1

pub returns-then-is_empty : goal.returns-then-is_empty
returns-then-is_empty g t c =
    let none : vec_len c.pop.new.self ≡ 0 = (let is = c.is_empty.ensures in let yes = c.if-is_empty.true in grind (arith, nat_tests)) in
    worked_first c.work-seat.ensures.done c.of.ensures.tally c.work-seat.ensures.few (omega (arith, none, c.in-Some.ensures.cases))

pub join-seat-requires-after_bounds : goal.join-seat-requires-after_bounds
join-seat-requires-after_bounds g t c κs within =
    let fresh = All-pop (IsFresh c.args.queue.now.object) _ _ (Some c.in-Some.seat) c.in-Some.ensures.items c.requires.fresh in
    let seat : IsFresh c.args.queue.now.object c.in-Some.seat = fresh.1 in
    let rest : All (IsFresh c.args.queue.now.object) c.pop.new.self.items = fresh.0 in
    grind serving

pub returns : goal.returns
returns g t c =
    worked_next c.join-seat.ensures.second c.join.ensures.joined c.join-seat.ensures.first.0 c.join-seat.ensures.first.1 (omega (arith, c.in-Some.ensures.cases))
