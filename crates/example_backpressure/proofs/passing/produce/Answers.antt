use Rattle.std.proofs.Common.{ap, refl, rules, sym, ◌∙◌, [], ◌∷◌, ◌++◌, append_assoc, List}
use Rattle.std.specs.List.{sum_by}
use Rattle.std.proofs.lemmas.List.Sums.{sum_by_push}
use Rattle.example_backpressure.specs.declared.channel.Buffer.{Buffer}
use Rattle.example_backpressure.specs.Passing.{nothing}
use Rattle.example_backpressure.proofs.Counting.{moves_then}
use Rattle.example_backpressure.proofs.passing.produce.Goals as goal

pub loop-buffer-preserved : goal.loop-buffer-preserved
loop-buffer-preserved g c =
    let was = c.loop-buffer.invariant in
    let sent = was.1.0 in
    let x = c.in-Some.buffer in
    let more = moves_then (λ w. sum_by w sent) nothing (λ w. w x) nothing (λ w. sum_by w (sent ++ x ∷ [])) nothing was.1.2 (c.send.ensures.moves (search (rules, c.if-not-send.false))) (λ w. sum_by_push w sent x) (λ w. refl) in
    (c.send.ensures.ends, (sent ++ x ∷ [], append_assoc sent (x ∷ []) _ ∙ (ap (λ (l : List Buffer). sent ++ l) (sym c.in-Some.ensures.steps.0) ∙ was.1.1), more))
