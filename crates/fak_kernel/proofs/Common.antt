-- The names that proofs cite most, passed on from one place. Declares nothing.
pub use Rattle.fak_files.specs.Calls.{entries_after}
pub use Rattle.fak_kernel.specs.Closing.{IsSleeper, IsWholeAt, AreClosed, left_at, rows_left, shut_lines, IsSettledAt, AreClosing}
pub use Rattle.fak_kernel.specs.Gathered.{FilesJoined, AreGathered, AreOfOne, left_weigh}
pub use Rattle.fak_kernel.specs.Threads.{HasBegun, as_left, HasReturned, HasLeft, IsOfRun, first_fault, OneIsRefused}
pub use Rattle.fak_model.proofs.Common.{All-nil, All-cons, All-head, All-tail, All-append, IsWhole, sum_by-cons, Rules, mine, TallyInfo, tally_of, count, value, nat_tests, sum_by-append, AreNamed, seat_of, file_rules, IsFileHistory, SeatInfo, IsJoined, In, Knows, marks_of, length-map, ObjectId, queue_rules, room_rules, IsPermutation-trans, contents, up_amount, release_amount, close_of, map-append, IsPermutation-map, sum_by-IsPermutation}
pub use Rattle.fak_model.proofs.SeatWeights.{is_in_is, mine_one}
pub use Rattle.fak_model.proofs.Seats.{in_left, in_right, in_either, whole_mine}
pub use Rattle.fak_model.specs.declared.credit.CreditMark.{CreditMark}
pub use Rattle.fak_model.specs.declared.file.FileEntry.{FileEntry}
pub use Rattle.fak_model.specs.declared.file.FileMark.{FileMark}
pub use Rattle.fak_model.specs.declared.queue.Kind.{Kind}
pub use Rattle.fak_model.specs.declared.queue.Mark.{Mark}
pub use Rattle.fak_processor.specs.Opened.{fresh_processor, AreSeated}
pub use Rattle.fak_processor.proofs.Moving.{files_then}
pub use Rattle.fak_processor.specs.Begun.{Between, IsLeftBy, IsFirst}
pub use Rattle.fak_processor.specs.Faults.{IsOfLoop, IsOfStep}
pub use Rattle.fak_processor.specs.declared.fault.LoopFault.TheVariants.{Step, Gate}
pub use Rattle.fak_processor.specs.declared.fault.LoopFault.{LoopFault}
pub use Rattle.fak_processor.specs.declared.fault.StepFault.TheVariants.{Memory, Worn}
pub use Rattle.fak_processor.specs.declared.fault.StepFault.{StepFault}
pub use Rattle.fak_processor.specs.Holding.{JoinedTo, Weighs, queue_kind, Bundle, Tallies, Have, Joins}
pub use Rattle.fak_processor.specs.Joined.{ids_of_tallies, no_seat, JoinEach, no_tally, TalliesOf, AreTalliesOf, HaveNames, JoinAll, tallies_of, first_tallies}
pub use Rattle.fak_processor.specs.Moving.{row_as, bundle_of, files_of, BeginsNone, LeavesNone}
pub use Rattle.fak_processor.specs.OnlyCounts.{sleepers_of}
pub use Rattle.fak_processor.specs.Processors.{HasName, ObjectsOf, ProcessorOf, AreFor, IsReached, lists_of, ids_of, AreOf, ids_of_seats}
pub use Rattle.fak_run.proofs.Sums.{sum_by-map, sum_by-flat_map}
pub use Rattle.fak_run.proofs.Told.{length-told_rows, IsSortedByName-told}
pub use Rattle.fak_run.specs.Files.{free_entry}
pub use Rattle.fak_run.specs.Gates.{IsRefused}
pub use Rattle.fak_run.specs.Holds.{gather_from, held_kinds, hold_line, AreHolds, FileHold}
pub use Rattle.fak_run.specs.Ledger.{Ledger, joined, shuts_of, named, notes, FitsRow}
pub use Rattle.fak_run.specs.ListScheduler.{turn_over, numbers_from}
pub use Rattle.fak_run.specs.Making.{AreLines, Left}
pub use Rattle.fak_run.specs.Report.{RowOf, ReportOf, IsSortedByName, rows_with, sleepers_outcome, IsReportOf, ListSchedulerReports, rows_at}
pub use Rattle.fak_run.specs.Told.{told_report, told_row, told_rows}
pub use Rattle.fak_run.specs.Views.{row_of}
pub use Rattle.fak_run.specs.Whole.{Histories, Gathered, begun_names, asleep, lines, lines_of, rows_of}
pub use Rattle.fak_run.specs.declared.fault.Fault.{Fault}
pub use Rattle.fak_run.specs.declared.report.Outcome.TheVariants.{Ended, Halted}
pub use Rattle.fak_run.specs.declared.report.Outcome.{Outcome}
pub use Rattle.fak_run.specs.declared.report.ProcessRow.{ProcessRow}
pub use Rattle.fak_sem.specs.Grants.{IsSettled}
pub use Rattle.fak_sem.specs.Semaphores.{SemId, SemInfo, SemTallyInfo, seats_of, sem_tally_of, SemSeatInfo, JoinsSeat}
pub use Rattle.fak_text.specs.Journal.{Process, NoteOf}
pub use Rattle.std.proofs.Common.{◌≡◌, ℕ, ◌-◌, List, [], ◌∷◌, ◌++◌, length, get_or, ap, sym, ◌∙◌, subst, arith, Option, Some, ◌⊎◌, zero, suc, ◌<◌, Bool, map, inl, inr, None, Result, Ok, Err, IfErr, ◌+◌, take, refl, append_assoc, slice_get, All, flat_map, append-nil, pos, slice_index, sum_by, ◌≤◌, drop, true, false, cond, nat_lt, IfOk, IfSome, IsPermutation, ◌||◌, replicate, vec_len, vec_items, rules, tests}
pub use Rattle.std.proofs.lemmas.List.Concat.{flat_map-cons}
pub use Rattle.std.specs.Vec.Iter.{into_iter_len, into_iter_items}
