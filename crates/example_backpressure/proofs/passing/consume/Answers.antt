use Rattle.std.proofs.Common.{ap, arith, refl, rules, ◌∙◌}
use Rattle.std.specs.List.{sum_by}
use Rattle.std.proofs.lemmas.List.Sums.{sum_by_push}
use Rattle.example_backpressure.specs.Passing.{nothing}
use Rattle.example_backpressure.proofs.Counting.{moves_then}
use Rattle.example_backpressure.proofs.passing.consume.Goals as goal

pub loop-preserved : goal.loop-preserved
loop-preserved g c =
    let x = c.in-Some.buffer in
    let room = c.make_room.ensures.moves (search (rules, c.if-not-make_room.false)) in
    let once = moves_then nothing (λ w. w x) nothing nothing nothing (λ w. w x) c.in-Some.ensures.moves room (λ w. refl) (λ w. omega arith) in
    (c.make_room.ensures.ends, moves_then nothing (λ w. sum_by w c.loop.into.items) nothing (λ w. w x) nothing (λ w. sum_by w c.push.new.self.items) c.loop.invariant.1 once (λ w. refl) (λ w. ap (sum_by w) c.in-Ok.ensures.items ∙ sum_by_push w c.loop.into.items x))
