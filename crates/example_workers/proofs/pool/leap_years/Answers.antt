use Rattle.std.proofs.Common.{rules, arith, ◌∷◌}
use Rattle.fak_model.proofs.Common.{sum_by-cons}
use Rattle.fak_queue.specs.Sums.{put_by, got_by, joined_next}
use Rattle.example_workers.specs.Counts.{leaps}
use Rattle.example_workers.proofs.pool.leap_years.Goals as goal

pub returns-clause-ok : goal.returns-clause-ok
returns-clause-ok g c =
    let run = c.give_and_work-seat in
    let seat = run.result.0.0 in
    let were = run.ensures.worked in
    let given = run.ensures.given (search (rules, c.if-not-given.false)) in
    let opened = c.in_ok-queue.ensures in
    let seats = seat ∷ were.seats in
    let balance = c.is_done.ensures (search (rules, c.if-not-is_done.false)) seats (joined_next were.joined c.join-tally.ensures.joined) (omega (arith, were.many, opened.others.0, opened.seats)) in
    omega (arith, balance, sum_by-cons (put_by leaps) seat were.seats, sum_by-cons (got_by leaps) seat were.seats, were.put_is, were.got_is, given.put_is, given.got_is)
