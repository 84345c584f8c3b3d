use Rattle.std.proofs.Common.{rules}
use Rattle.std.specs.List.{sum_by}
use Rattle.example_backpressure.proofs.Counting.{passed}
use Rattle.example_backpressure.proofs.passing.pass.Goals as goal

pub returns : goal.returns
returns g c w =
    let run = c.run_both-a in
    let fresh = c.in_ok-channel.ensures.fresh in
    let out = c.is_empty.ensures (search (rules, c.if-not-is_empty.false)) in
    passed c.in_ok-channel.a c.in_ok-channel.b run.result.0.0 run.result.1.0 (λ w. sum_by w c.args.buffers.items) (λ w. sum_by w run.result.1.1.items) fresh.0 fresh.1
    (run.ensures.sent (search (rules, c.if-not-sent.false))) (run.ensures.received (search (rules, c.if-not-all.false))) out.0 out.1 w
