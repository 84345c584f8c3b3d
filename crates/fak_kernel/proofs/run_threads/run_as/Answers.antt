use Rattle.fak_kernel.proofs.Common.{AreSeated, fresh_processor, ◌≡◌, ◌∙◌, ℕ, vec_len, length, arith, sym, subst}
use Rattle.fak_kernel.proofs.Collecting.{begun_each, left_alone, left_each}
use Rattle.fak_kernel.proofs.run_threads.run_as.Goals as goal

pub work_all-requires-clause-begun : goal.work_all-requires-clause-begun
work_all-requires-clause-begun g c κs within i d low =
    let opened = c.in_ok-opened.opened in
    let long : length opened.processors.items ≡ c.new-plan.result.processors = omega (arith, opened.processors.ok, c.in_ok-opened.ensures.len) in
    begun_each c.new-plan.result.processors opened.processors.items long (λ j e below. c.in_ok-opened.ensures.begun j e (omega (arith, below, opened.processors.ok))) c.in_ok-opened.ensures.alone i d (omega (arith, low, opened.processors.ok))

pub report_of_run-requires-clause-seated : goal.report_of_run-requires-clause-seated
report_of_run-requires-clause-seated g c =
    let long : vec_len c.in-Ok.left ≡ c.new-plan.result.processors = omega (arith, c.in-Ok.ensures.len, c.in_ok-opened.ensures.len) in
    subst (λ (n : ℕ). AreSeated n c.in_ok-opened.opened.objects) (sym long) c.in_ok-opened.ensures.made.1

pub report_of_run-requires-clause-left : goal.report_of_run-requires-clause-left
report_of_run-requires-clause-left g c i d low =
    let left = c.in-Ok.left in
    left_each left.items (λ j e below. c.in-Ok.ensures.left j e (omega (arith, below, left.ok))) i d (omega (arith, low, left.ok))

pub returns-in_ok-report_of_run-in-Ok-clause-alone : goal.returns-in_ok-report_of_run-in-Ok-clause-alone
returns-in_ok-report_of_run-in-Ok-clause-alone g c one =
    let left = c.in-Ok.left in
    let long : length left.items ≡ c.new-plan.result.processors = omega (arith, left.ok, c.in-Ok.ensures.len, c.in_ok-opened.ensures.len) in
    let only : c.new-plan.result.processors ≡ 1 = c.new-plan.ensures.processors ∙ one in
    c.in_ok-report_of_run-in-Ok.ensures.alone (omega (arith, only, long, left.ok))
    (left_alone left.items (λ j e below. c.in-Ok.ensures.left j e (omega (arith, below, left.ok))) long only) (fresh_processor c.in_ok-opened.opened.objects 0 0)
