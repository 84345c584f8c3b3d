use Rattle.std.proofs.Common.{◌∙◌, ℕ, ◌≤◌, List, [], ◌∷◌, length, ap, arith}
use Rattle.fak_run.specs.ReportText.{RunPrints, text_of_report}
use Rattle.fak_callers.proofs.reports.known_reports_are_printed.Goals as goal

pub returns-clause-stuck : goal.returns-clause-stuck
returns-clause-stuck c script text status run is = run.text_is ∙ (ap text_of_report is ∙ c.known_reports_have_known_texts.ensures.stuck)

pub returns-clause-halted : goal.returns-clause-halted
returns-clause-halted c script text status run is = run.text_is ∙ (ap text_of_report is ∙ c.known_reports_have_known_texts.ensures.halted)

pub returns-clause-row : goal.returns-clause-row
returns-clause-row c = c.known_reports_have_known_texts.ensures.row 12 63 1063

pub returns-clause-entry : goal.returns-clause-entry
returns-clause-entry c = c.known_reports_have_known_texts.ensures.entry 15 4294967296 4294967295 (omega arith)

pub returns-clause-births : goal.returns-clause-births
returns-clause-births c = c.known_reports_have_known_texts.ensures.births 1000 1024

-- a text that is not the empty one has a byte
some_text : (text : List ℕ) (P : List ℕ → Type 0) → (P [] → ⊥) → P text → 1 ≤ length text
some_text [] P none holds = absurd (none holds)
some_text (x ∷ xs) P none holds = omega arith

pub returns-clause-some : goal.returns-clause-some
returns-clause-some c script text status run =
    some_text text (λ (t : List ℕ). RunPrints script t status) (c.known_reports_have_known_texts.ensures.empty script status) run
