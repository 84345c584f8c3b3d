use Rattle.fak_run.proofs.Common.{ℕ, ◌<◌, List, refl, ap, arith, slice_index, child_row}
use Rattle.fak_run.proofs.ReportExamples.{clash}
use Rattle.fak_run.proofs.laws.reports.reports_with_rows_that_do_not_fit_are_refused.Goals as goal

pub returns-clause-slot : goal.returns-clause-slot
returns-clause-slot c r =
    let second = r.rows.fits 1 child_row (omega arith) in
    let out : 3 < 3 = second.process.slot in
    absurd (omega (arith, out))

pub returns-clause-position : goal.returns-clause-position
returns-clause-position c r = let first = r.rows.fits 0 child_row (omega arith) in clash 2 1 first.process.position refl

pub returns-clause-line : goal.returns-clause-line
returns-clause-line c r = let first = r.rows.fits 0 child_row (omega arith) in first.process.fits.0

pub returns-clause-text : goal.returns-clause-text
returns-clause-text c r =
    let first = r.rows.fits 0 child_row (omega arith) in
    clash 98 97 (ap (λ (text : List ℕ). slice_index text 0) first.process.fits.0) refl

pub returns-clause-semaphore : goal.returns-clause-semaphore
returns-clause-semaphore c r = let first = r.rows.fits 0 child_row (omega arith) in clash 1 0 first.process.fits.0 refl

pub returns-clause-inode : goal.returns-clause-inode
returns-clause-inode c r = let first = r.rows.fits 0 child_row (omega arith) in clash 8 7 first.process.fits.0.0 refl

pub returns-clause-number : goal.returns-clause-number
returns-clause-number c r = let first = r.rows.fits 0 child_row (omega arith) in clash 1 0 first.process.fits.0 refl

pub returns-clause-unended : goal.returns-clause-unended
returns-clause-unended c r = let first = r.rows.fits 0 child_row (omega arith) in let over = first.stands in absurd (cc)

pub returns-clause-unstuck : goal.returns-clause-unstuck
returns-clause-unstuck c r = let second = r.rows.fits 1 child_row (omega arith) in let stands = second.stands.1 in absurd (cc)
