use Rattle.fak_run.proofs.Common.{ℕ, true≢false, refl, arith, sum_by, sum_by-IsPermutation, NameAndProgram, child_row}
use Rattle.fak_run.proofs.ReportExamples.{clash}
use Rattle.fak_run.proofs.laws.reports.reports_with_wrong_names_are_refused.Goals as goal

pub returns-clause-order : goal.returns-clause-order
returns-clause-order c r = true≢false (r.sorted 0 child_row (omega arith) (omega arith))

pub returns-clause-name : goal.returns-clause-name
returns-clause-name c r = clash 1 0 (sum_by-IsPermutation (λ (n : NameAndProgram). sum_by (λ (k : ℕ). k) n.0) _ _ r.rows.names) refl

pub returns-clause-program : goal.returns-clause-program
returns-clause-program c r = clash 2 1 (sum_by-IsPermutation (λ (n : NameAndProgram). n.1) _ _ r.rows.names) refl
