-- The names that proofs cite most, re-exported from one place. Declares nothing.
pub use Rattle.fak_files.specs.Calls.{FileSeatInfo, LeavesMarks, amount_for, AreRefused, IsWaitedFor, IsGot, entries_after, IsSet, IsEnded}
pub use Rattle.fak_files.specs.Shown.{mark}
pub use Rattle.fak_files.specs.Versions.{entry_of, is_take, is_take_of, prefix_through_take, marks_since_take, back_from_take, own_since_take}
pub use Rattle.fak_files.specs.declared.phase.Access.{Access}
pub use Rattle.fak_model.proofs.Appending.{history_none, snoc_ind, history_prefix, last_fair}
pub use Rattle.fak_model.proofs.Common.{nat_tests, sum_by-cons, sum_by-append, up_amount, release_amount, refusal_of, other_amount, ints, length-map, sum_by_push, contents, debit_weight, credit_weight, put_of, got_of, field, field_after, All-nil, All-head, All-tail, All-push, filter-append, flat_map-append, AreNamed, words_by, Setting, set_mark, WholeCall, Refused, Withdrawn, kinds_of_call, seat_of, kind_of, file_rules, IsFileHistory, ObjectId, SeatInfo, seat_info, last_of, Begins, marks_of, All-append, close_of, closed_of, Rules, IsHistory, mine_of, Appends, before_appended, list_any, slice_cmp, get_or-map, All-cons, amount_held, hold_after, IsFair, cases_lt, slice_get_within, sum_by-IsPermutation, nil_from_length, sum_below}
pub use Rattle.fak_model.proofs.Deciding.{same_or_not, cond_here, cond_else}
pub use Rattle.fak_model.proofs.Leading.{sum_same, sum_plus, sum_one, sum_none}
pub use Rattle.fak_model.proofs.QueueWeights.{queue_weighs, nothing_left, puts_weigh, gots_weigh_one, closed_after_close}
pub use Rattle.fak_model.specs.declared.file.FileEntry.{FileEntry}
pub use Rattle.fak_model.specs.declared.file.FileField.TheVariants.{Inode, Uses}
pub use Rattle.fak_model.specs.declared.file.FileField.{FileField}
pub use Rattle.fak_model.specs.declared.file.FileKind.TheVariants.{Set, Take, Over, Back, No, Give}
pub use Rattle.fak_model.specs.declared.file.FileKind.{FileKind}
pub use Rattle.fak_model.specs.declared.file.FileMark.{FileMark}
pub use Rattle.fak_model.specs.declared.queue.Kind.{Kind}
pub use Rattle.fak_run.specs.Examples.{used}
pub use Rattle.fak_run.specs.Files.{FileChange, most_uses, open_change, open_by, raise, raise_by, close_change, close_by, lower, lowered, first_entry, uses_of, free_entry}
pub use Rattle.fak_run.specs.Holds.{with_field, set_in, gather_from, set_all, IsFitHold, is_of_hold, held_kinds, kinds_of_hold, reads_from, reads_of, hold_line, read_of, AreHolds, FileHold}
pub use Rattle.fak_run.specs.Ledger.{Ledger, shuts_of, Made, NameAndProgram, named, child, after_made, IsMade, notes, no_births_of, no_slots_of, waiting, FitsRow, Balanced, joined, downs_of, ups_of, ended_slot, stuck_of, halted_of, not_before, before_down, other_down, its_down}
pub use Rattle.fak_run.specs.ListScheduler.{next_step, turn_over, Lists, State, opening, child_of, numbers_from, Turn, begun_from, take_front, step, steps, EndsIn, enter_by, go_on, down_by, up_by, spawn_by, make, go_or_make, turn_by, step_by, enter_ready, end_process}
pub use Rattle.fak_run.specs.Making.{Left, HasJustTaken, HasMade, AreLines, sets_at, sets_of}
pub use Rattle.fak_run.specs.Promises.{children_from, children_of, spawned_names, stuck_at, stuck_before, kept_slot, Promised}
pub use Rattle.fak_run.specs.Replays.{Steps, Replays}
pub use Rattle.fak_run.specs.Report.{RowOf, IsSortedByName, rows_with, sleepers_outcome, is_ended, ReportOf, rows_at, IsReportOf, ListSchedulerReports, is_stuck}
pub use Rattle.fak_run.specs.ReportExamples.{left_row, opener, pair_at, parent_row, child_row}
pub use Rattle.fak_run.specs.ReportText.{text_of_row, text_of_entries}
pub use Rattle.fak_run.specs.Told.{told_rows, told, told_notes, told_row}
pub use Rattle.fak_run.specs.Views.{row_of}
pub use Rattle.fak_run.specs.Whole.{Histories, Gathered, begun_names, asleep, lines, lines_of, is_shut, rows_of}
pub use Rattle.fak_run.specs.declared.report.Outcome.TheVariants.{Ended, Halted, Stuck}
pub use Rattle.fak_run.specs.declared.report.Outcome.{Outcome}
pub use Rattle.fak_run.specs.declared.report.ProcessRow.{ProcessRow}
pub use Rattle.fak_text.proofs.Common.{ScriptOf, StepOf, steps_of, spawn, NoteOf, spawned, Process, births_of, child_count, Allows, FitsFrom, say, downed, said, StandsAt, after_note, new_process, yield, down, up, open_file, close_file, stat, shutdown, yielded, upped, opened, closed, statted, no_birth, no_slot, shut_down, text_of_journal, note_of, steps_view}
pub use Rattle.fak_text.proofs.Journals.{child_count-append, length-push, note_fits}
pub use Rattle.std.proofs.Common.{◌≡◌, ℕ, ◌+◌, nat_lt, Bool, true, false, List, [], ◌∷◌, refl, ap, sym, ◌∙◌, arith, map, ◌<◌, ◌≤◌, ◌++◌, length, slice_get, Some, subst, sum_by, append-nil, zero, suc, ◌⊎◌, inl, inr, ◌≢◌, ◌==◌, IsPermutation, cond, append_assoc, filter, flat_map, get_or, ◌&&◌, All, AllPairs, slice_set, reverse, slice_index_or, Option, None, MatchOption, remove, IfSome, ◌||◌, nat_cmp, IsSortedByKey, true≢false, ◌-◌, ◌*◌, slice_index, min, Ordering, Less, Equal, Greater, take, string_bytes, drop, if◌then◌else◌, rules, is_lt}
pub use Rattle.std.proofs.lemmas.Bool.{and_parts, and_from}
pub use Rattle.std.proofs.lemmas.Cmp.{nat_list_cmp_total}
pub use Rattle.std.proofs.lemmas.Grind.{common_steps}
pub use Rattle.std.proofs.lemmas.List.MinMax.{ranks_by}
pub use Rattle.std.proofs.lemmas.List.Sorted.{IsPermutation-refl, IsPermutation-trans, IsPermutation-append_right, IsPermutation-middle, IsPermutation-sym, IsPermutation-cons, IsPermutation-remove, sorted_far, IsPermutation-map, answers_always}
pub use Rattle.std.proofs.lemmas.List.{get_or_past, set_past, length_push}
pub use Rattle.std.specs.Slice.Iter.{iter_rest}
pub use Rattle.std.specs.Vec.Iter.{into_iter_items}
