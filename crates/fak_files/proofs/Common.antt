-- The names that proofs cite most, passed on from one place. This file declares nothing.
pub use Rattle.atomic_table.specs.Table.{State, opening, Act, keeps, stepped, carried_after, Valid, Allows}
pub use Rattle.fak_files.specs.Calls.{entries_after, idle_seats, FileSeatInfo, file_seat, one_hold, holds_of, LeavesMarks, IsGranted, IsBusy, IsGot, IsSet, IsEnded, IsHoldOf, holds_had, amount_for, IsWorn, AreRefused, IsWaitedFor, IsRefused}
pub use Rattle.fak_files.specs.Closing.{entry_in}
pub use Rattle.fak_files.specs.Phases.{amount_of, StandsIn, phase_of, AreInHold, hold_for}
pub use Rattle.fak_files.specs.SeatTokens.{Makes, Misses, seat_now, before_steps, IsFileSeat, IsSettled}
pub use Rattle.fak_files.specs.Shown.{mark, ShowsHistory, file_object, FileView, IsShownFile, FileHolder, Steps, CountIs, limits, opened_file, Got, Tested, Took, Withdrew, Gave, FieldIs, WasSet, HeardJoin}
pub use Rattle.fak_files.specs.Versions.{prefix_through_take, entry_of, is_take, back_from_take, own_since_take, marks_since_take, is_set, KeepsHold}
pub use Rattle.fak_files.specs.Words.{word_of, count_place, width}
pub use Rattle.fak_files.specs.declared.limits.FileLimits.{FileLimits}
pub use Rattle.fak_files.specs.declared.phase.Access.TheVariants.{Read, Write}
pub use Rattle.fak_files.specs.declared.phase.Access.{Access}
pub use Rattle.fak_files.specs.declared.phase.FilePhase.TheVariants.{Idle, Holding, Backing, Taking}
pub use Rattle.fak_files.specs.declared.phase.FilePhase.{FilePhase}
pub use Rattle.fak_files.specs.declared.phase.Hold.TheVariants.{Nothing, Reading, Writing}
pub use Rattle.fak_model.proofs.Appending.{snoc_ind, seat_words-own, seat_words-other, history_front, last_fair, owed_comes, history_push, history_begun, history_owed, history_prefix, history_none}
pub use Rattle.fak_model.proofs.Common.{some, some-injective, some-ne-none, get_elem?, file_rules, IsWhole, ints, sum_by-cons, AreCalls, AreNamed, seat_words, sum_below, flat_map-append, Owes, words_by, nat_tests, All-head, All-tail, All-cons, All-nil, seat_of, amount_held, hold_after, field, IsFair, IsFileHistory, marks_of, Foreign, All-pop, kind_of, hold_from, field_after, In, Sees, ObjectId, object_id, seat_info, IsSeatToken, bias, sight, SeatInfo, fresh_seats, sum_by-append, kinds_of_call, Appends, AreBetweenCalls, TallyInfo, IsJoined, AreOwn, Leaves, All-push, WholeCall, Refused, Withdrawn, mine_of, IsAtRest, tally_info}
pub use Rattle.fak_model.proofs.Deciding.{same_or_not}
pub use Rattle.fak_model.proofs.FileLaw.{given_push, files_fit, hold_push}
pub use Rattle.fak_model.proofs.Leading.{total_push, sum_same, sum_most, sum_parts, sum_plus, sum_term}
pub use Rattle.fak_model.proofs.Resting.{owes_more, rest_joined, rest_whole}
pub use Rattle.fak_model.proofs.Reversing.{reverse_push, reverse_cons, All-reverse}
pub use Rattle.fak_model.proofs.RunningCalls.{marks_of-reverse, token_names, appends_then, appends_none, step_appends, step_before, token_phase, token_slots, token_after}
pub use Rattle.fak_model.proofs.RunningJoins.{fresh_token, fresh_next, whole_set, deals, dealt_is, kept_is, rest_from, tally_at, seat_at, may_join, token_joined, set_joined, call_joined}
pub use Rattle.fak_model.proofs.RunningSeats.{starts, hears}
pub use Rattle.fak_model.proofs.Seats.{begins_self, whole_mine}
pub use Rattle.fak_model.specs.Shown.{TellsNothing}
pub use Rattle.fak_model.specs.declared.file.FileEntry.{FileEntry}
pub use Rattle.fak_model.specs.declared.file.FileField.TheVariants.{Inode, Uses}
pub use Rattle.fak_model.specs.declared.file.FileField.{FileField}
pub use Rattle.fak_model.specs.declared.file.FileKind.TheVariants.{Take, Over, Back, No, Set, Give}
pub use Rattle.fak_model.specs.declared.file.FileKind.{FileKind}
pub use Rattle.fak_model.specs.declared.file.FileMark.{FileMark}
pub use Rattle.std.proofs.Common.{◌≡◌, ◌≢◌, inl, inr, slice_set, ℕ, zero, suc, ◌+◌, ◌<◌, List, [], ◌∷◌, length, take, slice_get, slice_index, get_or, Some, None, refl, ap, sym, ◌∙◌, subst, arith, reverse, ◌-◌, ◌*◌, ◌≤◌, ◌++◌, append_assoc, ℤ, pos, ◌+ℤ◌, ◌-ℤ◌, sum_by, map, flat_map, ◌==◌, Bool, true, false, true≢false, All, ◌⊎◌, append-nil, replicate, set, ◌%◌, ◌^◌, ◌≤ℤ◌, ◌<ℤ◌, cond, mod-eq_of_lt, ◌&&◌, rules, w64, not, is_ok}
pub use Rattle.std.proofs.Math.Nat.{lt_of_not-le, add-mod_left}
pub use Rattle.std.proofs.lemmas.Grind.{common_steps}
pub use Rattle.std.proofs.lemmas.List.{get_or-take, get_or-set_other, get_or-replicate, length-take-le, get_or-set_same, length-set, set-get_or}
pub use Rattle.std.specs.Slots.{slots_items}
