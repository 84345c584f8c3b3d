use Rattle.std.proofs.Common.{arith, ap, rules, subst, sym, ◌∙◌}
use Rattle.example_frames.specs.Frames.{Keeps}
use Rattle.example_frames.proofs.machine.churn.Goals as goal

pub loop-init : goal.loop-init
loop-init g c = (c.new-port.ensures.queue, subst (Keeps c.args.seat) (sym c.new-port.ensures.seat) (λ n. omega arith))

pub loop-preserved : goal.loop-preserved
loop-preserved g c =
    let was = c.loop.invariant in
    let once : Keeps c.loop.port.seat c.use_one.new.free.seat = search (rules, c.use_one.ensures.same, c.if-not-use_one.false) in
    (ap (λ q. q.now) c.use_one.ensures.list ∙ was.0, λ n. omega (arith, was.1 n, once n))

pub returns-clause-same : goal.returns-clause-same
returns-clause-same g c = λ yes. subst (Keeps c.args.seat) (sym c.into_seat-2.ensures.seat) c.loop.invariant.1
