use Rattle.std.proofs.Common.{refl}
use Rattle.fak_callers.proofs.reports.runs_may_print_known_reports.Goals as goal

pub returns-clause-child : goal.returns-clause-child
returns-clause-child c = record { report = _; reports = c.known_reports_are_allowed.ensures.child; text_is = refl; status_is = refl }

pub returns-clause-no_birth : goal.returns-clause-no_birth
returns-clause-no_birth c = record { report = _; reports = c.known_reports_are_allowed.ensures.no_birth; text_is = refl; status_is = refl }

pub returns-clause-passed : goal.returns-clause-passed
returns-clause-passed c = record { report = _; reports = c.known_reports_are_allowed.ensures.passed; text_is = refl; status_is = refl }

pub returns-clause-halted : goal.returns-clause-halted
returns-clause-halted c = record { report = _; reports = c.known_reports_are_allowed.ensures.halted; text_is = refl; status_is = refl }

pub returns-clause-opened : goal.returns-clause-opened
returns-clause-opened c = record { report = _; reports = c.known_reports_are_allowed.ensures.opened; text_is = refl; status_is = refl }
