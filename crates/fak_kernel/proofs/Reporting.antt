-- The report of all processors.
use Rattle.std.proofs.lemmas.List.{append-nil, length-map}
use Rattle.fak_model.specs.Room as room
use Rattle.fak_text.proofs.Common.{ScriptOf, NoteOf, Process}
use Rattle.fak_kernel.proofs.Common.{Outcome, Ended, Halted, RowOf, ReportOf, IsSortedByName, rows_with, sleepers_outcome, FitsRow, notes, shuts_of, JoinedTo, ObjectsOf, AreFor, ids_of, AreSeated, row_as, files_of, AreGathered, FilesJoined, AreClosed, IsSleeper, IsWholeAt, left_at, rows_left, shut_lines, ◌≡◌, ℕ, zero, suc, ◌+◌, ◌-◌, ◌<◌, ◌≤◌, nat_lt, Bool, true, false, List, [], ◌∷◌, ◌++◌, length, get_or, refl, ap, sym, ◌∙◌, subst, arith, append_assoc, map, slice_index, sum_by, flat_map, All, IsPermutation, All-nil, All-cons, All-head, All-tail, All-append, sum_by-append, IsPermutation-trans, contents, ObjectId, IsWhole, FileEntry, Mark, entries_after, IsSettled, SemId, SemInfo, SemTallyInfo, Gathered, asleep, lines, lines_of, rows_of, TalliesOf, AreTalliesOf, HaveNames, tallies_of, ids_of_tallies, no_tally, sum_by-map, sum_by-flat_map, flat_map-cons, CreditMark, whole_mine}
use Rattle.fak_run.specs.Promises.{Promised, spawned_names}
use Rattle.fak_run.specs.Reported as reported
use Rattle.fak_run.specs.RunReports.{RunReports}
use Rattle.fak_run.proofs.Permuting.{permuted}
use Rattle.fak_run.proofs.SameRows.{same_row, same_row_is, same_row_self}
use Rattle.fak_kernel.proofs.Naming.{is_whole}
use Rattle.fak_run.proofs.Conserved.{lines_are}
use Rattle.fak_kernel.proofs.Gathering.{AreWhole, gathered, histories_of}
use Rattle.fak_run.proofs.Reports.{promised, lines_all}
use Rattle.fak_kernel.proofs.ReportingFiles.{file_weight, file_lines_weigh, files_replay}

-- ---- who sleeps

asleep_front : (waits : ℕ → List (Mark Process)) (n : ℕ) → asleep waits (suc n) ≡ contents (waits 0) ++ asleep (λ s. waits (suc s)) n
asleep_front waits zero = sym (append-nil (contents (waits 0)))
asleep_front waits (suc n) = ap (λ l. l ++ contents (waits (suc n))) (asleep_front waits n) ∙ append_assoc (contents (waits 0)) (asleep (λ s. waits (suc s)) n) (contents (waits (suc n)))

pub asleep_are : (tallies : List (SemTallyInfo Process)) → asleep (λ s. (get_or tallies s no_tally).queue_seen) (length tallies) ≡ flat_map left_at tallies
asleep_are [] = refl
asleep_are (t ∷ tallies) =
    asleep_front (λ s. (get_or (t ∷ tallies) s no_tally).queue_seen) (length tallies) ∙ (ap (λ l. contents t.queue_seen ++ l) (asleep_are tallies) ∙ sym (flat_map-cons left_at t tallies))

fits_as : (script : ScriptOf) (shut : Bool) (p : Process) → IsSleeper script p → FitsRow script (row_as (sleepers_outcome shut) p)
fits_as script true p s = record { process = s.fits; stands = tt }
fits_as script false p s = record { process = s.fits; stands = (s.semaphore, s.stands) }

sleepers_fit : (script : ScriptOf) (shut : Bool) (ps : List Process) → All (IsSleeper script) ps → All (FitsRow script) (rows_with (sleepers_outcome shut) ps)
sleepers_fit script shut [] all = All-nil (FitsRow script)
sleepers_fit script shut (p ∷ ps) all =
    All-cons (FitsRow script) (row_as (sleepers_outcome shut) p) (rows_with (sleepers_outcome shut) ps) (fits_as script shut p (All-head (IsSleeper script) p ps all)) (sleepers_fit script shut ps (All-tail (IsSleeper script) p ps all))

-- ---- starts

starts_are : (ts : List (SemTallyInfo Process)) (os : List SemInfo) → ids_of_tallies ts ≡ ids_of os → map (λ (t : SemTallyInfo Process). t.object.start) ts ≡ map (λ (s : SemInfo). s.object.start) os
starts_are [] [] same = refl
starts_are [] (o ∷ os) same = absurd (cc)
starts_are (t ∷ ts) [] same = absurd (cc)
starts_are (t ∷ ts) (o ∷ os) same =
    let first : t.object ≡ o.object = cc in
    let others : ids_of_tallies ts ≡ ids_of os = cc in
    let rest = starts_are ts os others in
    λ i. (first i).start ∷ rest i

start_at : (ts : List (SemTallyInfo Process)) (s : ℕ) → s < length ts → (get_or ts s no_tally).object.start ≡ slice_index (map (λ (t : SemTallyInfo Process). t.object.start) ts) s
start_at [] s below = absurd (omega (arith, below))
start_at (t ∷ ts) zero below = refl
start_at (t ∷ ts) (suc s) below = start_at ts s (omega (arith, below))

add_up : (all left rows slept ended others halted e h : ℕ) → all ≡ rows + slept → left ≡ others + slept → others ≡ ended + halted → ended ≡ e → halted ≡ h → e + h ≡ rows → all ≡ left
add_up all left rows slept ended others halted e h a b c d f g = omega (arith, a, b, c, d, f, g)

-- a tally of an object with a seat for each processor has them all
pub whole_names : {k : ℕ} {object mine_object : ObjectId} {names : List ℕ} → mine_object ≡ object → object.seats ≡ k → JoinedTo k names → IsWhole mine_object.seats names
whole_names {k} {object} {mine_object} {names} same seats j = subst (λ (n : ℕ). IsWhole n names) (sym (ap (λ (i : ObjectId). i.seats) same ∙ seats)) (is_whole k names j)

module _ {script : ScriptOf} {o : ObjectsOf} {k : ℕ} {t : TalliesOf} {ended halted slept : List Process} (for_it : AreFor script o) (seated : AreSeated k o) (a : AreGathered script o k t ended halted) (c : AreClosed script t.semaphores slept) where
  count : length t.semaphores ≡ length script.semaphores
  count = sym (length-map t.semaphores (λ (s : SemTallyInfo Process). s.object)) ∙ (ap length a.are.semaphores ∙ (length-map o.semaphores (λ (s : SemInfo). s.object) ∙ for_it.semaphores))

  -- a semaphore's tally has as many seats as there are processors
  seats_at : (ts : List (SemTallyInfo Process)) (os : List SemInfo) → ids_of_tallies ts ≡ ids_of os → All (λ (s : SemInfo). s.object.credit.seats ≡ k) os → All (λ (s : SemInfo). s.object.queue.seats ≡ k) os → (s : ℕ) → s < length ts
      → ((get_or ts s no_tally).object.credit.seats ≡ k) × ((get_or ts s no_tally).object.queue.seats ≡ k)
  seats_at [] os same credits queues s below = absurd (omega (arith, below))
  seats_at (t ∷ ts) [] same credits queues s below = absurd (cc)
  seats_at (t ∷ ts) (o ∷ os) same credits queues zero below =
      let first : t.object ≡ o.object = cc in
      (ap (λ (i : SemId). i.credit.seats) first ∙ credits 0 o (omega arith), ap (λ (i : SemId). i.queue.seats) first ∙ queues 0 o (omega arith))
  seats_at (t ∷ ts) (o ∷ os) same credits queues (suc s) below =
      let others : ids_of_tallies ts ≡ ids_of os = cc in
      seats_at ts os others (λ i d low. credits (suc i) d (omega (arith, low))) (λ i d low. queues (suc i) d (omega (arith, low))) s (omega (arith, below))

  whole : AreWhole script (tallies_of t)
  whole = record {
    ready = whole_mine (λ (m : Mark Process). m.seat) t.ready.object.seats t.ready.names t.ready.seen (whole_names a.are.ready seated.ready a.names.ready) a.have.ready.named;
    free = whole_mine (λ (m : Mark ℕ). m.seat) t.free.object.seats t.free.names t.free.seen (whole_names a.are.free seated.free a.names.free) a.have.free.named;
    births = whole_mine room.seat_of t.births.object.seats t.births.names t.births.seen (whole_names a.are.births seated.births a.names.births) a.have.births.named;
    busy = whole_mine (λ (m : CreditMark). m.seat) t.busy.object.seats t.busy.names t.busy.seen (whole_names a.are.busy seated.busy a.names.busy) a.have.busy.named;
    credits = λ s below.
        let at : s < length t.semaphores = omega (arith, below, count) in
        let is = seats_at t.semaphores o.semaphores a.are.semaphores seated.credits seated.waits s at in
        let u = get_or t.semaphores s no_tally in
        whole_mine (λ (m : CreditMark). m.seat) u.object.credit.seats u.names u.credit_seen (subst (λ (n : ℕ). IsWhole n (get_or t.semaphores s no_tally).names) (sym is.0) (is_whole k u.names (a.names.semaphores s no_tally at))) (a.have.credits s below).named;
    waits = λ s below.
        let at : s < length t.semaphores = omega (arith, below, count) in
        let is = seats_at t.semaphores o.semaphores a.are.semaphores seated.credits seated.waits s at in
        let u = get_or t.semaphores s no_tally in
        whole_mine (λ (m : Mark Process). m.seat) u.object.queue.seats u.names u.queue_seen (subst (λ (n : ℕ). IsWhole n (get_or t.semaphores s no_tally).names) (sym is.1) (is_whole k u.names (a.names.semaphores s no_tally at))) (a.have.waits s below).named;
    settled = λ s below.
        let at : s < length t.semaphores = omega (arith, below, count) in
        let u = get_or t.semaphores s no_tally in
        let start : (get_or t.semaphores s no_tally).object.start ≡ slice_index script.semaphores s = start_at t.semaphores s at ∙ ap (λ l. slice_index l s) (starts_are t.semaphores o.semaphores a.are.semaphores ∙ for_it.starts) in
        subst (λ (n : ℕ). IsSettled n u.credit_seen u.queue_seen) start (c.settled s no_tally at);
  }

  pub all_gathered : Gathered script t.births.object.seats (histories_of (tallies_of t)) a.ledger
  all_gathered = gathered a.have whole

  sleepers_are : asleep (histories_of (tallies_of t)).waits (length script.semaphores) ≡ slept
  sleepers_are = ap (asleep (λ s. (get_or t.semaphores s no_tally).queue_seen)) (sym count) ∙ (asleep_are t.semaphores ∙ sym c.asleep_are)

  -- ---- rows

  shut_is : lines shuts_of a.ledger.rows + lines_of shuts_of (asleep (histories_of (tallies_of t)).waits (length script.semaphores)) ≡ shut_lines ended halted slept
  shut_is =
      let left = a.rows (λ (r : RowOf). sum_by shuts_of r.process.journal) in
      let there = ap (lines_of shuts_of) sleepers_are in
      omega (arith, left, there)

  pub shut_notes : shut_lines ended halted slept ≡ notes shuts_of a.ledger
  shut_notes = sym shut_is ∙ lines_are all_gathered shuts_of

  abbrev outcome : Outcome
  outcome = sleepers_outcome (nat_lt 0 (shut_lines ended halted slept))

  all_rows_are : rows_of script (histories_of (tallies_of t)) a.ledger ≡ a.ledger.rows ++ rows_with outcome slept
  all_rows_are = λ i. a.ledger.rows ++ rows_with (sleepers_outcome (nat_lt 0 (shut_is i))) (sleepers_are i)

  weigh_alike : (f : RowOf → ℕ) → sum_by f (a.ledger.rows ++ rows_with outcome slept) ≡ sum_by f (rows_left ended halted slept)
  weigh_alike f =
      let all : sum_by f (a.ledger.rows ++ rows_with outcome slept) ≡ sum_by f a.ledger.rows + sum_by f (rows_with outcome slept) = sum_by-append f a.ledger.rows (rows_with outcome slept) in
      let first : sum_by f (rows_left ended halted slept) ≡ sum_by f (rows_with Ended ended ++ rows_with Halted halted) + sum_by f (rows_with outcome slept) = sum_by-append f (rows_with Ended ended ++ rows_with Halted halted) (rows_with outcome slept) in
      let then : sum_by f (rows_with Ended ended ++ rows_with Halted halted) ≡ sum_by f (rows_with Ended ended) + sum_by f (rows_with Halted halted) = sum_by-append f (rows_with Ended ended) (rows_with Halted halted) in
      let e : sum_by f (rows_with Ended ended) ≡ sum_by (λ (q : Process). f (row_as Ended q)) ended = sum_by-map f (row_as Ended) ended in
      let h : sum_by f (rows_with Halted halted) ≡ sum_by (λ (q : Process). f (row_as Halted q)) halted = sum_by-map f (row_as Halted) halted in
      let left : sum_by (λ (q : Process). f (row_as Ended q)) ended + sum_by (λ (q : Process). f (row_as Halted q)) halted ≡ sum_by f a.ledger.rows = a.rows f in
      add_up (sum_by f (a.ledger.rows ++ rows_with outcome slept)) (sum_by f (rows_left ended halted slept)) (sum_by f a.ledger.rows) (sum_by f (rows_with outcome slept)) (sum_by f (rows_with Ended ended))
      (sum_by f (rows_with Ended ended ++ rows_with Halted halted)) (sum_by f (rows_with Halted halted)) (sum_by (λ (q : Process). f (row_as Ended q)) ended) (sum_by (λ (q : Process). f (row_as Halted q)) halted) all first then e h left

  rows_alike : IsPermutation (rows_of script (histories_of (tallies_of t)) a.ledger) (rows_left ended halted slept)
  rows_alike = subst (λ (l : List RowOf). IsPermutation l (rows_left ended halted slept)) (sym all_rows_are) (permuted same_row same_row_is same_row_self (a.ledger.rows ++ rows_with outcome slept) (rows_left ended halted slept) weigh_alike)

  all_fit : All (FitsRow script) (rows_of script (histories_of (tallies_of t)) a.ledger)
  all_fit = subst (All (FitsRow script)) (sym all_rows_are) (All-append (FitsRow script) a.ledger.rows (rows_with outcome slept) a.have.balanced.rows (sleepers_fit script (nat_lt 0 (shut_lines ended halted slept)) slept c.sleepers))

  module _ {rows : List RowOf} (sorted : IsPermutation (rows_left ended halted slept) rows) where
    permutation : IsPermutation (rows_of script (histories_of (tallies_of t)) a.ledger) rows
    permutation = IsPermutation-trans (rows_of script (histories_of (tallies_of t)) a.ledger) (rows_left ended halted slept) rows rows_alike sorted

    pub rows_promised : Promised script rows
    rows_promised = promised all_gathered rows all_fit permutation

    pub notes_in_rows : (w : NoteOf → ℕ) → lines w rows ≡ notes w a.ledger
    notes_in_rows w = lines_all all_gathered rows all_fit permutation w

    -- there is a row for each process that was started
    pub started_have_rows : length script.start ≤ length rows
    started_have_rows = omega (arith, rows_promised.count)

    pub run_reports : {report : ReportOf} → 1 ≤ k → report.version ≡ script.version → report.bound ≡ script.births → report.rows ≡ rows → IsSortedByName rows → report.births ≡ length rows - length script.start
        → report.entries ≡ entries_after t.files.seen 0 script.files → RunReports script report
    run_reports {report} some version bound rows_are by_name births entries = record {
      version = version;
      bound = bound;
      sorted = subst IsSortedByName (sym rows_are) by_name;
      births = subst (λ (l : List RowOf). report.births ≡ length (spawned_names script l)) (sym rows_are) (omega (arith, births, rows_promised.count));
      rows = subst (Promised script) (sym rows_are) rows_promised;
      files = files_replay report some files entries weigh;
    }
      where
        files : FilesJoined script.files k k t.files (files_of a.ledger)
        files = subst (λ (x : ℕ × ℕ). FilesJoined x.0 x.1 k t.files (files_of a.ledger)) (λ i. (for_it.files i, seated.files i)) a.files

        weigh : (weight : NoteOf → ℕ) → sum_by weight (files_of a.ledger) ≡ sum_by (file_weight weight) (reported.report_lines report)
        weigh weight =
            file_lines_weigh weight (map (λ m. m.note) a.ledger.made)
            ∙ (sum_by-map (file_weight weight) (λ m. m.note) a.ledger.made
            ∙ (sym (notes_in_rows (file_weight weight)) ∙ (ap (lines (file_weight weight)) (sym rows_are) ∙ sym (sum_by-flat_map (file_weight weight) (λ (r : RowOf). r.process.journal) report.rows))))

    -- the report with these rows and entries
    pub run_reports_with : {report : ReportOf} {now : ScriptOf} {n : ℕ} {es : List FileEntry} → now ≡ script → n ≡ length rows → 1 ≤ k → IsSortedByName rows → es ≡ entries_after t.files.seen 0 o.files.entries
        → report ≡ record { version = now.version; rows = rows; births = n - length now.start; bound = now.births; entries = es } → RunReports script report
    run_reports_with {report} {now} {n} {es} same long some by_name entries is =
        let last : es ≡ entries_after t.files.seen 0 script.files = entries ∙ ap (entries_after t.files.seen 0) for_it.files in
        subst (RunReports script) (sym (is ∙ (λ i. record { version = (same i).version; rows = rows; births = long i - length (same i).start; bound = (same i).births; entries = es })))
        (run_reports {report = record { version = script.version; rows = rows; births = length rows - length script.start; bound = script.births; entries = es }} some refl refl refl by_name refl last)

-- all semaphores' tallies are whole, and that of the file table
pub whole_each : {o : ObjectsOf} {k : ℕ} {t : TalliesOf} → AreTalliesOf o t → AreSeated k o → HaveNames k t → All IsWholeAt t.semaphores
whole_each {o} {k} {t} are seated names = each t.semaphores o.semaphores are.semaphores seated.credits names.semaphores
  where
    each : (ts : List (SemTallyInfo Process)) (os : List SemInfo) → ids_of_tallies ts ≡ ids_of os → All (λ (s : SemInfo). s.object.credit.seats ≡ k) os → All (λ (s : SemTallyInfo Process). JoinedTo k s.names) ts → All IsWholeAt ts
    each [] os same credits joins = All-nil IsWholeAt
    each (u ∷ ts) [] same credits joins = absurd (cc)
    each (u ∷ ts) (o ∷ os) same credits joins =
        let first : u.object ≡ o.object = cc in
        let others : ids_of_tallies ts ≡ ids_of os = cc in
        let seats : u.object.credit.seats ≡ k = ap (λ (i : SemId). i.credit.seats) first ∙ credits 0 o (omega arith) in
        All-cons IsWholeAt u ts (subst (λ (n : ℕ). IsWhole n u.names) (sym seats) (is_whole k u.names (joins 0 u (omega arith))))
        (each ts os others (λ i d low. credits (suc i) d (omega (arith, low))) (λ i d low. joins (suc i) d (omega (arith, low))))
