use Rattle.fak_kernel.proofs.Common.{fresh_processor, IsLeftBy, ◌≡◌, refl, arith, get_or, sym, subst}
use Rattle.fak_kernel.proofs.running.run_alone.Goals as goal

pub work_alone-requires-clause-begun : goal.work_alone-requires-clause-begun
work_alone-requires-clause-begun g c d = record {
  between = c.in_ok-opened.ensures.begun 0 d (omega (arith, c.in_ok-opened.ensures.len, c.new-plan.ensures.processors));
  alone = λ _. c.in_ok-opened.ensures.alone c.new-plan.ensures.processors d;
}

pub report_of_run-requires-clause-left : goal.report_of_run-requires-clause-left
report_of_run-requires-clause-left g c i d low =
    let left = c.in-Ok.left in
    let first : i ≡ 0 = omega (arith, low, c.in-Ok.ensures.one) in
    let has = c.in-Ok.ensures.left d in
    subst (λ k. IsLeftBy g.K.Run.script c.in_ok-opened.opened.objects k (get_or left.items k d)) (sym first) has.left

pub returns-in_ok-report_of_run-in-Ok-clause-report : goal.returns-in_ok-report_of_run-in-Ok-clause-report
returns-in_ok-report_of_run-in-Ok-clause-report g c =
    let has = c.in-Ok.ensures.left in
    c.in_ok-report_of_run-in-Ok.ensures.alone c.in-Ok.ensures.one (λ d. let h = has d in (h.alone refl, h.still refl)) (fresh_processor c.in_ok-opened.opened.objects 0 0)
