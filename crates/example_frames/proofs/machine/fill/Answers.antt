use Rattle.std.proofs.Common.{arith, ap, subst, sym, ◌∙◌}
use Rattle.example_frames.specs.Frames.{HasPut, one_of}
use Rattle.example_frames.proofs.Counting.{next_one, no_frame}
use Rattle.example_frames.proofs.machine.fill.Goals as goal

pub loop-number-init : goal.loop-number-init
loop-number-init g c = (c.new-port.ensures.queue, subst (HasPut (one_of 0)) (sym c.new-port.ensures.seat) (λ n. omega (arith, c.requires.put n, no_frame n)))

pub loop-number-preserved : goal.loop-number-preserved
loop-number-preserved g c =
    let was = c.loop-number.invariant in
    let adds = c.in-Ok.ensures.adds in
    (ap (λ q. q.now) c.in-Ok.ensures.list ∙ was.0, λ n. omega (arith, was.1 n, (adds n).put_is, (adds n).got_is, next_one c.loop-number.number n))
