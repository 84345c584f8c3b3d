use Rattle.std.proofs.Common.{arith, rules}
use Rattle.example_frames.specs.Frames.{HasPut, Keeps, one_of}
use Rattle.example_frames.proofs.machine.churn_all.Goals as goal

pub close-requires-clause-put : goal.close-requires-clause-put
close-requires-clause-put g c =
    let both = c.churn_both-a in
    let filled : HasPut (one_of c.args.frames) c.fill-a.result.0 = search (rules, c.fill-a.ensures.all, c.if-not-filled.false) in
    let first : Keeps c.fill-a.result.0 both.result.0.0 = search (rules, both.ensures.same.0, c.if-not-first.false) in
    let second : Keeps c.in_ok-free.b both.result.1.0 = search (rules, both.ensures.same.1, c.if-not-second.false) in
    (λ n. omega (arith, filled n, first n), λ n. omega (arith, c.in_ok-free.ensures.put.1 n, second n))
