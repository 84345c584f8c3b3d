-- The report of one processor is the list scheduler's.
use Rattle.fak_model.specs.declared.queue.Kind.TheVariants.{ClaimIn, OverIn, BackIn, NoRoom, Put, Fill, EndIn, ClaimOut, OverOut, BackOut, NoItem, Got, Take, EndOut, Close, Closed, LateIn}
use Rattle.fak_model.specs.declared.room.RoomKind.{RoomKind}
use Rattle.fak_model.specs.declared.room.RoomMark.{RoomMark}
use Rattle.fak_model.specs.Queue as queue
use Rattle.fak_model.specs.Room as room
use Rattle.fak_count.specs.Rooms.{held_amount}
use Rattle.fak_text.proofs.Common.{ScriptOf, Process, births_of}
use Rattle.fak_kernel.proofs.Common.{turn_over, Ended, Halted, notes, sleepers_of, ObjectsOf, ProcessorOf, AreFor, IsReached, lists_of, AreSeated, TalliesOf, AreGathered, AreOfOne, AreClosed, left_at, rows_left, shut_lines, ◌≡◌, ℕ, zero, suc, ◌+◌, ◌-◌, nat_lt, true, List, [], ◌∷◌, ◌++◌, length, refl, ap, sym, ◌∙◌, subst, arith, map, ◌||◌, sum_by, flat_map, IsPermutation, nat_tests, contents, up_amount, release_amount, marks_of, mine, close_of, FileEntry, Mark, entries_after, SemSeatInfo, sem_tally_of, RowOf, ReportOf, IsSortedByName, IsReportOf, ListSchedulerReports, rows_at, rows_with, sleepers_outcome, sum_by-map, flat_map-cons, Kind, mine_one}
use Rattle.fak_processor.specs.OnlyQueues.{has_close, is_close}
use Rattle.fak_kernel.proofs.Reporting.{all_gathered, shut_notes, rows_promised, notes_in_rows}

-- whether a queue was shut, by a count
close_weighs : {T : Type 0} (kind : Kind T) → is_close kind ≡ nat_lt 0 (close_of kind)
close_weighs ClaimIn = refl
close_weighs OverIn = refl
close_weighs BackIn = refl
close_weighs NoRoom = refl
close_weighs (Put x) = refl
close_weighs (Fill n) = refl
close_weighs EndIn = refl
close_weighs ClaimOut = refl
close_weighs OverOut = refl
close_weighs BackOut = refl
close_weighs NoItem = refl
close_weighs (Got x) = refl
close_weighs (Take n) = refl
close_weighs EndOut = refl
close_weighs Close = refl
close_weighs Closed = refl
close_weighs LateIn = refl

either_some : (a b : ℕ) → (nat_lt 0 a || nat_lt 0 b) ≡ nat_lt 0 (a + b)
either_some zero b = let plus : 0 + b ≡ b = omega arith in ap (nat_lt 0) (sym plus)
either_some (suc a) b =
    let one : nat_lt 0 (suc a) ≡ true = grind (arith, nat_tests) in
    let some : nat_lt 0 (suc a + b) ≡ true = grind (arith, nat_tests) in
    (λ i. one i || nat_lt 0 b) ∙ sym some

close_counts : {T : Type 0} (h : List (Mark T)) → has_close h ≡ nat_lt 0 (queue.count close_of h)
close_counts [] = refl
close_counts (m ∷ h) = (λ i. close_weighs m.kind i || close_counts h i) ∙ either_some (close_of m.kind) (queue.count close_of h)

left_where : (seats : List (SemSeatInfo Process)) → flat_map left_at (map sem_tally_of seats) ≡ flat_map (λ waiting. waiting) (map sleepers_of seats)
left_where [] = refl
left_where (s ∷ seats) = flat_map-cons left_at (sem_tally_of s) (map sem_tally_of seats) ∙ (ap (λ l. contents s.queue_seen ++ l) (left_where seats) ∙ sym (flat_map-cons (λ waiting. waiting) (sleepers_of s) (map sleepers_of seats)))

module _ {script : ScriptOf} {o : ObjectsOf} {k : ℕ} {t : TalliesOf} {ended halted slept : List Process} (for_it : AreFor script o) (seated : AreSeated k o) (a : AreGathered script o k t ended halted) (c : AreClosed script t.semaphores slept)
    {p : ProcessorOf} (one : AreOfOne p t ended halted) where
  shut_is : nat_lt 0 (shut_lines ended halted slept) ≡ has_close p.ready.seen
  shut_is =
      let g = all_gathered for_it seated a c in
      let closes : queue.count close_of t.ready.seen ≡ shut_lines ended halted slept = omega (arith, g.ready close_of, a.have.balanced.shutdown.shuts, shut_notes for_it seated a c) in
      ap (nat_lt 0) (sym closes) ∙ (sym (close_counts t.ready.seen) ∙ ap (λ (x : TalliesOf). has_close x.ready.seen) one.tallies)

  slept_are : slept ≡ flat_map (λ waiting. waiting) (map sleepers_of p.semaphores)
  slept_are = c.asleep_are ∙ (ap (λ (x : TalliesOf). flat_map left_at x.semaphores) one.tallies ∙ left_where p.semaphores)

  rows_are : rows_left ended halted slept ≡ rows_at (lists_of script p)
  rows_are = λ i. rows_with Ended (one.ended_are i) ++ rows_with Halted (one.halted_are i) ++ rows_with (sleepers_outcome (shut_is i)) (slept_are i)

  held : held_amount p.births ≡ notes births_of a.ledger
  held =
      let own : (w : RoomKind → ℕ) → sum_by (λ (m : RoomMark). w (room.kind_of m)) (marks_of room.seat_of p.births.name p.births.seen) ≡ sum_by w a.ledger.births =
      λ w. ap (sum_by (λ (m : RoomMark). w (room.kind_of m))) (sym (mine_one room.seat_of p.births.name p.births.seen))
      ∙ (ap (λ (x : TalliesOf). sum_by (λ (m : RoomMark). w (room.kind_of m)) (mine room.seat_of x.births.names x.births.seen)) (sym one.tallies) ∙ a.have.births.weigh w) in
      let up = sum_by-map up_amount room.kind_of (marks_of room.seat_of p.births.name p.births.seen) ∙ own up_amount in
      let release = sum_by-map release_amount room.kind_of (marks_of room.seat_of p.births.name p.births.seen) ∙ own release_amount in
      omega (arith, up, release, a.have.balanced.births.ups, a.have.balanced.births.releases)

  module _ {rows : List RowOf} (sorted : IsPermutation (rows_left ended halted slept) rows) where
    births_are : length rows - length script.start ≡ held_amount p.births
    births_are =
        let promise = rows_promised for_it seated a c sorted in
        omega (arith, promise.count, promise.births, notes_in_rows for_it seated a c sorted births_of, held)

    pub alone_reports : {report : ReportOf} {now : ScriptOf} {n : ℕ} {es : List FileEntry} → now ≡ script → n ≡ length rows → IsReached script p (turn_over (lists_of script p)) → (lists_of script p).ready ≡ [] → IsSortedByName rows
        → es ≡ entries_after t.files.seen 0 o.files.entries → report ≡ record { version = now.version; rows = rows; births = n - length now.start; bound = now.births; entries = es } → ListSchedulerReports script report
    alone_reports {report} {now} {n} {es} same long reached still by_name entries is =
        let last : es ≡ entries_after p.files.seat.seen 0 script.files = entries ∙ ((λ i. entries_after (one.tallies i).files.seen 0 (for_it.files i))) in
        let whole : IsReportOf script (lists_of script p) (record { version = script.version; rows = rows; births = length rows - length script.start; bound = script.births; entries = es }) = record {
          version = refl;
          rows = subst (λ (l : List RowOf). IsPermutation l rows) rows_are sorted;
          sorted = by_name;
          births = births_are;
          bound = refl;
          entries = last;
        } in (
          lists_of script p,
          record { count = reached.count; reached = reached.reached; still = still },
          subst (IsReportOf script (lists_of script p)) (sym (is ∙ (λ i. record { version = (same i).version; rows = rows; births = long i - length (same i).start; bound = (same i).births; entries = es }))) whole,
        )
