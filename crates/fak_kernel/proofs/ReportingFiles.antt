-- From the lines of the joined seats of the file table to the report.
use Rattle.fak_kernel.proofs.Common.{free_entry, ReportOf, FileHold, hold_line, gather_from, FilesJoined, ◌≡◌, ℕ, zero, suc, ◌+◌, ◌≤◌, Bool, true, false, cond, List, [], ◌∷◌, ◌++◌, refl, ap, sym, ◌∙◌, subst, arith, map, replicate, sum_by, map-append, sum_by-cons, IsPermutation-map, sum_by-IsPermutation, TallyInfo, FileEntry, FileMark, entries_after, NoteOf}
use Rattle.fak_run.specs.Replays.{Replays}
use Rattle.fak_run.specs.Merging.{AreMerged}
use Rattle.fak_run.specs.Reported.{is_file_line, file_lines, report_lines, FilesReplay}
use Rattle.fak_run.proofs.Scan.{holds_replay}
use Rattle.fak_processor.proofs.Fresh.{entries_fresh}

-- what file lines weigh among all lines
abbrev pub file_weight : (NoteOf → ℕ) → NoteOf → ℕ
file_weight weight note = cond (is_file_line note) (weight note) 0

pub file_lines_weigh : (weight : NoteOf → ℕ) (lines : List NoteOf) → sum_by weight (file_lines lines) ≡ sum_by (file_weight weight) lines
file_lines_weigh weight [] = refl
file_lines_weigh weight (l ∷ lines) = by (is_file_line l) refl (file_lines_weigh weight lines)
  where
    by : (b : Bool) → is_file_line l ≡ b → sum_by weight (file_lines lines) ≡ sum_by (file_weight weight) lines → sum_by weight (file_lines (l ∷ lines)) ≡ sum_by (file_weight weight) (l ∷ lines)
    by true e rest =
        let one : weight l ≡ file_weight weight l = rw e refl in
        let first : file_lines (l ∷ lines) ≡ l ∷ file_lines lines = rw e refl in
        ap (sum_by weight) first ∙ (sum_by-cons weight l (file_lines lines) ∙ ((λ i. one i + rest i) ∙ sym (sum_by-cons (file_weight weight) l lines)))
    by false e rest =
        let none : file_weight weight l ≡ 0 = rw e refl in
        let first : file_lines (l ∷ lines) ≡ file_lines lines = rw e refl in
        let plus : sum_by (file_weight weight) lines ≡ 0 + sum_by (file_weight weight) lines = omega arith in
        ap (sum_by weight) first ∙ (rest ∙ (plus ∙ ((λ i. sym none i + sum_by (file_weight weight) lines) ∙ sym (sum_by-cons (file_weight weight) l lines))))

lines-gathered : (holds : ℕ → List FileHold) (first n : ℕ) → map hold_line (gather_from holds first n) ≡ gather_from (λ s. map hold_line (holds s)) first n
lines-gathered holds first zero = refl
lines-gathered holds first (suc n) = map-append hold_line (holds first) (gather_from holds (suc first) n) ∙ ap (λ l. map hold_line (holds first) ++ l) (lines-gathered holds (suc first) n)

-- the lines of all seats, which weigh as the file lines of the report, replay to the entries that are left
pub files_replay : {n k : ℕ} {t : TallyInfo FileMark} {lines : List NoteOf} (report : ReportOf) → 1 ≤ k → FilesJoined n k k t lines → report.entries ≡ entries_after t.seen 0 n
    → ((weight : NoteOf → ℕ) → sum_by weight lines ≡ sum_by (file_weight weight) (report_lines report)) → FilesReplay n report
files_replay {n} {k} {t} {lines} report some f entries weigh =
    let merged : AreMerged k f.holds (entries_after [] 0 n) (entries_after t.seen 0 n) = holds_replay n k k some t.seen f.lawful f.named f.holds f.are in
    let permutation = IsPermutation-map hold_line (gather_from f.holds 0 k) merged.list merged.permutation in
    record {
      list = map hold_line merged.list;
      as_often = λ weight.
          sum_by-IsPermutation weight (map hold_line (gather_from f.holds 0 k)) (map hold_line merged.list) permutation
          ∙ (ap (sum_by weight) (lines-gathered f.holds 0 k) ∙ (f.often weight ∙ (weigh weight ∙ sym (file_lines_weigh weight (report_lines report)))));
      replays = subst (Replays (replicate n free_entry) (map hold_line merged.list)) (sym entries) (subst (λ (l : List FileEntry). Replays l (map hold_line merged.list) (entries_after t.seen 0 n)) (entries_fresh 0 n) merged.replays);
    }
