use Rattle.std.proofs.Common.{[], ◌∷◌, arith}
use Rattle.fak_callers.proofs.runs.a_run_has_few_rows.Goals as goal

pub returns-clause-few : goal.returns-clause-few
returns-clause-few c script h l rows range gathered fit sorted =
    let kept = c.a_gathered_run_keeps_its_promises.ensures script 8 h l rows gathered fit sorted in
    omega (arith, kept.count, kept.bound, range.births, range.start_count, range.slots.1)

pub returns-clause-twice : goal.returns-clause-twice
returns-clause-twice c script h l a b gathered fit sorted =
    (c.a_gathered_run_keeps_its_promises.ensures script 8 h l (a ∷ b ∷ []) gathered fit sorted).once 0 1 a (omega arith) (omega arith)
