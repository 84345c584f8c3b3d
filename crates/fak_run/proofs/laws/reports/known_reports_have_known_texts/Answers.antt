use Rattle.fak_run.proofs.Common.{◌≡◌, ℕ, ◌<◌, ◌==◌, false, List, ◌++◌, length, ap, arith, flat_map, text_of_row, text_of_entries}
use Rattle.fak_run.specs.ReportText.{text_of_births, text_of_outcomes, text_of_report}
use Rattle.std.proofs.lemmas.Fmt.{decimal_digit}
use Rattle.std.proofs.lemmas.List.{length-append}
use Rattle.fak_run.proofs.laws.reports.known_reports_have_known_texts.Goals as goal

pub returns-clause-stuck : goal.returns-clause-stuck
returns-clause-stuck c =
    rw (
      decimal_digit 0 (omega arith),
      decimal_digit 1 (omega arith),
      decimal_digit 2 (omega arith),
      decimal_digit 3 (omega arith),
      decimal_digit 4 (omega arith),
      decimal_digit 5 (omega arith),
      decimal_digit 6 (omega arith),
      decimal_digit 7 (omega arith),
      decimal_digit 8 (omega arith),
      decimal_digit 9 (omega arith),
    )

pub returns-clause-halted : goal.returns-clause-halted
returns-clause-halted c = rw (decimal_digit 0 (omega arith), decimal_digit 1 (omega arith), decimal_digit 2 (omega arith), decimal_digit 3 (omega arith))

is_used : (inode : ℕ) → 0 < inode → (inode == 0) ≡ false
is_used inode some = grind arith

pub returns-clause-empty : goal.returns-clause-empty
returns-clause-empty c script status run =
    let r = run.report in
    let first : List ℕ = flat_map text_of_row r.rows ++ text_of_entries 0 r.entries ++ text_of_births r in
    let e : 0 ≡ length (text_of_report r) = ap length run.text_is in
    absurd (omega (arith, e, length-append first (text_of_outcomes r)))
