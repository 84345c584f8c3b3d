use Rattle.fak_run.proofs.Common.{◌≡◌, List, [], ◌∷◌, refl, subst, arith, sum_by, NoteOf, opened, statted, free_entry, common_steps, used, Replays, child_row}
use Rattle.fak_run.proofs.ReportExamples.{clash, only_line}
use Rattle.fak_run.proofs.laws.reports.reports_with_wrong_lines_are_refused.Goals as goal

pub returns-clause-one_slot : goal.returns-clause-one_slot
returns-clause-one_slot c r = r.rows.slots 0 1 child_row (omega arith) (omega arith) refl refl refl

pub returns-clause-halted_slot : goal.returns-clause-halted_slot
returns-clause-halted_slot c r = r.rows.slots 0 1 child_row (omega arith) (omega arith) refl refl refl

pub returns-clause-other : goal.returns-clause-other
returns-clause-other c r = let first = r.rows.fits 0 child_row (omega arith) in clash 1 0 first.process.fits.0 refl

replays_as : (line : NoteOf) (list : List NoteOf) → list ≡ line ∷ [] → Replays (free_entry ∷ []) list (free_entry ∷ []) → Replays (free_entry ∷ []) (line ∷ []) (free_entry ∷ [])
replays_as line list is replays = subst (λ (l : List NoteOf). Replays (free_entry ∷ []) l (free_entry ∷ [])) is replays

pub returns-clause-entry : goal.returns-clause-entry
returns-clause-entry c r = grind (arith, common_steps, opened, replays_as, only_line, used, free_entry, clash, sum_by)

pub returns-clause-unopened : goal.returns-clause-unopened
returns-clause-unopened c r = grind (arith, common_steps, opened, replays_as, only_line)

pub returns-clause-uses : goal.returns-clause-uses
returns-clause-uses c r = grind (arith, common_steps, statted, replays_as, only_line)
