use Rattle.std.proofs.Common.{arith, rules}
use Rattle.fak_queue.specs.Sums.{Adds}
use Rattle.example_frames.specs.Frames.{is_number}
use Rattle.example_frames.proofs.machine.use_one.Goals as goal

pub returns-in-Some-clause-same : goal.returns-in-Some-clause-same
returns-in-Some-clause-same g c = λ yes n.
    let took = c.in-Some.ensures.adds n in
    let gave : Adds (is_number n) (is_number n c.in-Some.frame) 0 c.take.new.free.seat c.give_back.new.free.seat = search (rules, c.give_back.ensures.adds, c.is_ok.ensures, yes) in
    omega (arith, took.put_is, took.got_is, gave.put_is, gave.got_is)

pub returns-in-None-clause-same : goal.returns-in-None-clause-same
returns-in-None-clause-same g c = λ yes n.
    let none = c.in-None.ensures.adds n in
    omega (arith, none.put_is, none.got_is)
