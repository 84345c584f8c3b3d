-- The names that proofs cite most, passed on from one place. Declares nothing.
pub use Rattle.fak_count.specs.Rooms.{held_amount, RoomInfo, IsGranted, MakesCall, Withdraws}
pub use Rattle.fak_files.specs.Calls.{idle_seats, entries_after, FileSeatInfo}
pub use Rattle.fak_files.specs.Versions.{entry_of}
pub use Rattle.fak_files.specs.declared.phase.Access.TheVariants.{Write, Read}
pub use Rattle.fak_model.proofs.Appending.{history_prefix, history_none}
pub use Rattle.fak_model.proofs.Common.{sum_by-append, SeatInfo, Rules, queue_rules, room_rules, credit_rules, value, put_of, got_of, map-append, ObjectId, fresh_seats, nat_tests, All-nil, All-cons, sum_below, debit_weight, credit_weight, up_amount, release_amount, close_of, closed_of, refusal_of, other_amount, length-replicate, All-head, All-tail, seat_info, filter-append, ints, count, gots, items_put, contents, Appends, flat_map-append, IsQueueHistory, puts, lower_raise, lower_drop, lower_count, Has, item_in, item_at, IsFairMark, is_in, marks_of, mine, TallyInfo, tally_of, mine_of, IsJoined}
pub use Rattle.fak_model.proofs.Deciding.{cond_here, cond_else, same_or_not}
pub use Rattle.fak_model.proofs.Leading.{sum_none, total_push}
pub use Rattle.fak_model.specs.declared.credit.CreditKind.TheVariants.{Debit, Credit}
pub use Rattle.fak_model.specs.declared.credit.CreditKind.{CreditKind}
pub use Rattle.fak_model.specs.declared.credit.CreditMark.{CreditMark}
pub use Rattle.fak_model.specs.declared.file.FileEntry.{FileEntry}
pub use Rattle.fak_model.specs.declared.file.FileMark.{FileMark}
pub use Rattle.fak_model.specs.declared.queue.Kind.TheVariants.{NoItem, OverOut, BackOut, Close}
pub use Rattle.fak_model.specs.declared.queue.Kind.{Kind}
pub use Rattle.fak_model.specs.declared.queue.Mark.{Mark}
pub use Rattle.fak_model.specs.declared.room.RoomKind.TheVariants.{Over, Back, No, Up, Release}
pub use Rattle.fak_model.specs.declared.room.RoomKind.{RoomKind}
pub use Rattle.fak_model.specs.declared.room.RoomMark.{RoomMark}
pub use Rattle.fak_processor.specs.Begun.{Between, empty_lists, Begins, FindsNoSlot, FindsSlot, StartsOne, begins}
pub use Rattle.fak_processor.specs.Events.{empty, made_of, IsPlain, fills, steps, passes, parks, adds, wakes, spawns, lacks_birth, lacks_slot, waits_refused, shuts, refused_claim}
pub use Rattle.fak_processor.specs.Holding.{Owns, queue_kind, Bundle, Weighs}
pub use Rattle.fak_processor.specs.Joined.{no_seat, no_table}
pub use Rattle.fak_processor.specs.Moving.{MovesNoItem, GrowsIn, GrowsAtLast, Gains, Moves, bundle_of, files_of, IsQuiet, GrowsShut, GrowsOut, GrowsEmpty, BeginsNone, row_as, GainsParked, GainsWoken, at_one, DownsAt, UpsAt, names_of, LeavesNone, hand_of, GrowsIdle}
pub use Rattle.fak_processor.specs.OnlyCounts.{IsOnlySem, semaphore_count, sleepers_of, IsOnlyRoom, Passes, Parks, Raises, Rouses, Claims, FindsFull, GivesBack}
pub use Rattle.fak_processor.specs.OnlyQueues.{Enters, is_close, has_close, IsOnlySeat, Keeps, Bounces, TakesFirst, FindsNone, Shuts}
pub use Rattle.fak_processor.specs.Processors.{HasName, ObjectsOf, ProcessorOf, AreFor, IsReached, lists_of, ids_of, AreOf, GoesTo, IsAlone, ids_of_seats, AtPlace, IsBorn, HasNoBirth, WakesNobody, WakesFirst, SleepsLast, CountFalls, HasNoSlot, TakesFreeSlot, GoesOn}
pub use Rattle.fak_processor.specs.Turning.{Grows, Turning, Adds}
pub use Rattle.fak_queue.proofs.AfterRefusals.{made_by_append}
pub use Rattle.fak_queue.proofs.Weighing.{count_at_last, none_in, none_out}
pub use Rattle.fak_queue.specs.Queues.{made_by, Makes, RefusesEmpty, ShutsAs, state_of, kinds_in, kinds_out}
pub use Rattle.fak_queue.specs.Retries.{kinds_not_in, kinds_not_out, RefusedInsertion, NotIn, WithdrawnIn, ClosedIn, WithdrawnLate, RefusedDeletion, NotOut, WithdrawnOut, InsertsAtLast, DeletesAtLast, IsClosed, InsertsAfterFull, ClosesAfterFull, IsFull}
pub use Rattle.fak_run.proofs.Holding.{lines_none, lines_more, left_none, taken_of, made_by_sets}
pub use Rattle.fak_run.proofs.Joining.{balanced-joined}
pub use Rattle.fak_run.proofs.Only.{only_still, only_seen, only_lawful, only_before}
pub use Rattle.fak_run.proofs.OnlyFiles.{got, keeps_files_then, keeps_files_all, all_read, waited_for, ended, changes_files, open_one, stored_only, sets_entry, found_at, close_one}
pub use Rattle.fak_run.proofs.Storing.{stores_change, left_sets}
pub use Rattle.fak_run.proofs.Sums.{sum_at, sum_by-map}
pub use Rattle.fak_run.specs.Files.{free_entry, open_change, close_change, uses_of}
pub use Rattle.fak_run.specs.Gates.{HasPassed}
pub use Rattle.fak_run.specs.Ledger.{Ledger, Balanced, nothing, joined, Made, NameAndProgram, named, IsMade, FitsRow, not_before, its_down, before_down, other_down, child, downs_of, ups_of, shuts_of, no_births_of, no_slots_of}
pub use Rattle.fak_run.specs.ListScheduler.{next_step, turn_over, child_of, numbers_from, Turn, begun_from, Lists, enter_ready, first_lists, State, step, take_front}
pub use Rattle.fak_run.specs.Making.{AreLines, HasMade, sets_of, HasJustTaken, Left}
pub use Rattle.fak_run.specs.Only.{IsOnly}
pub use Rattle.fak_run.specs.Report.{RowOf}
pub use Rattle.fak_run.specs.Reported.{is_file_line, file_lines}
pub use Rattle.fak_run.specs.Whole.{begun_names}
pub use Rattle.fak_run.specs.declared.report.Outcome.TheVariants.{Ended, Halted}
pub use Rattle.fak_sem.specs.Semaphores.{SemInfo, SemSeatInfo, credit_part, queue_part, Downs, Ups, SemId, fresh_sem_seats}
pub use Rattle.fak_text.proofs.Common.{ScriptOf, Process, FitsScript, StepOf, down, up, spawn, shutdown, NoteOf, downed, upped, spawned, no_birth, no_slot, shut_down, child_count, after_note, StandsAt, new_process, say, yield, open_file, close_file, stat, said, yielded, opened, closed, statted, Allows}
pub use Rattle.std.proofs.Common.{◌≡◌, ℕ, List, [], ◌∷◌, ◌++◌, length, refl, ap, sym, ◌∙◌, subst, arith, None, sum_by, append-nil, Bool, true, false, inl, inr, map, ℤ, pos, Some, flat_map, zero, suc, ◌+◌, ◌<◌, ◌≤◌, drop, get_or, All, ◌==◌, cond, ◌-◌, replicate, slice_index_or, append_assoc, Option, slice_set, nat_lt, slice_index, ◌⊎◌, length-append, ◌+ℤ◌, ◌≤ℤ◌, ◌<ℤ◌, ◌||◌, IfSome, MatchOption, take, option_to_list, rules, take_all, slice_get}
pub use Rattle.std.proofs.lemmas.Grind.{common_steps}
pub use Rattle.std.proofs.lemmas.List.Elements.{All-get_or, All-push, All-drop}
pub use Rattle.std.proofs.lemmas.List.{length-map, get_or-map, map-set, get_or-set_same, get_or-set_other}
pub use Rattle.std.specs.Vec.Iter.{into_iter_items}
