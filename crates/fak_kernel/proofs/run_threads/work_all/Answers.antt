use Rattle.std.proofs.lemmas.List.{length-map}
use Rattle.fak_kernel.proofs.Common.{as_left, ◌≡◌, length, arith, ap, ◌∙◌, sym}
use Rattle.fak_kernel.proofs.Collecting.{have_left, of_loop, run_refused}
use Rattle.fak_kernel.proofs.run_threads.work_all.Goals as goal

pub returns-in-Err-clause-refused : goal.returns-in-Err-clause-refused
returns-in-Err-clause-refused g c = λ gate.
    let results = c.in_ok-results.results in
    let long : length results.items ≡ c.args.lent.now.plan.now.processors = omega (arith, results.ok, c.in_ok-results.ensures.len, c.requires.len) in
    run_refused results.items c.in-Err.fault long (λ i d low. c.in_ok-results.ensures.returned i d (omega (arith, low, results.ok))) c.in-Err.ensures.fault (of_loop gate)

pub returns-in-Ok-clause-len : goal.returns-in-Ok-clause-len
returns-in-Ok-clause-len g c =
    let results = c.in_ok-results.results in
    let left = c.in-Ok.left in
    let same : length left.items ≡ length results.items = sym (length-map left.items as_left) ∙ ap length c.in-Ok.ensures.left in
    omega (arith, same, left.ok, results.ok, c.in_ok-results.ensures.len)

pub returns-in-Ok-clause-left : goal.returns-in-Ok-clause-left
returns-in-Ok-clause-left g c = λ i d low.
    let results = c.in_ok-results.results in
    let left = c.in-Ok.left in
    have_left results.items left.items c.in-Ok.ensures.left (λ j e below. c.in_ok-results.ensures.returned j e (omega (arith, below, results.ok))) i d (omega (arith, low, left.ok))
