-- The names that proofs cite most, re-exported from one place. Declares nothing.
pub use Rattle.atomic_table.proofs.Lists.{set_else, at_set}
pub use Rattle.atomic_table.specs.Table.{Me, Splits, Joins, keeps, opening, Allows, State, Act, stepped, homes_after, carried_after}
pub use Rattle.fak_model.specs.Calls.{fresh_seats, last_of, SeatInfo, ObjectId, object_id, seat_info, Appends, before_appended, TallyInfo, IsJoined, IsJoinOf, before_mark, tally_info, mine_of, tally_of}
pub use Rattle.fak_model.specs.Checker.{AreBelow, AreCounts, counts_with, FirstFault, stage_with}
pub use Rattle.fak_model.specs.Credit.{value, credit_rules, debit_weight, credit_weight}
pub use Rattle.fak_model.specs.Examples.{by, deleted, inserted, Parts, file_by, room_by}
pub use Rattle.fak_model.specs.File.{seat_of, Refused, Withdrawn, kinds_of_call, amount_held, IsFair, kind_of, WholeCall, file_rules, IsFileHistory, Setting, set_mark, hold_after, hold_from, field, field_after, Held, total, take_amount, over_amount, back_amount, amount_given, IsAmount, gives, amount_given_from}
pub use Rattle.fak_model.specs.Histories.{Owes, seat_words, AreNamed, words_by, sum_below, IsAtRest, IsHistory, AreCalls, Rules}
pub use Rattle.fak_model.specs.Queue.{queue_rules, words_of_call, item_at, item_in, items_put, count, puts, gots, upper_count, lower_count, Has, Drew, IsQueueHistory, contents, lower_raise, lower_drop, IsFairMark, upper_raise, upper_drop, word, IsFairAnswer, IsFirstOut, BearsTicket, HasItsCell}
pub use Rattle.fak_model.specs.QueuePast.{item_of, stage, IsLegalPast, MayFollow, after, SeatsBelow, HasCell, IsNext, IsLegalByStage, item_put, HasNoOpenCall}
pub use Rattle.fak_model.specs.Resting.{AreBetweenCalls}
pub use Rattle.fak_model.specs.Room.{up_amount, release_amount, room_rules, IsRoomHistory}
pub use Rattle.fak_model.specs.Seats.{marks_of, Begins, IsWhole, In, AreApart, mine, Knows, is_in, longer_of}
pub use Rattle.fak_model.specs.Shown.{Leaves, Object, IsShown, Hears}
pub use Rattle.fak_model.specs.Tokens.{IsSeatToken, IsTallyToken}
pub use Rattle.fak_model.specs.Views.{sight, AreOwn, Foreign, Sees, HasOneName, names_from, first_name, later_names, dealt, kept, joined, spent, settled, opened, share_of, shorter_of}
pub use Rattle.fak_model.specs.Weights.{refusal_of, other_amount, put_of, got_of, close_of, closed_of}
pub use Rattle.fak_model.specs.Words.{bias}
pub use Rattle.fak_model.specs.declared.file.FileField.TheVariants.{Inode, Uses}
pub use Rattle.fak_model.specs.declared.file.FileKind.{FileKind}
pub use Rattle.fak_model.specs.declared.file.FileMark.{FileMark}
pub use Rattle.fak_model.specs.declared.queue.Kind.TheVariants.{ClaimIn, BackIn, Put, EndIn, ClaimOut, Got, Close, OverIn, Fill, OverOut, Take, LateIn, BackOut, EndOut, NoRoom, NoItem, Closed}
pub use Rattle.fak_model.specs.declared.queue.Kind.{Kind}
pub use Rattle.fak_model.specs.declared.queue.Mark.{Mark}
pub use Rattle.fak_model.specs.declared.queue.Stage.TheVariants.{Putting, Getting, Idle, ClaimedOut, Withdrawing, Claimed, Filled, WithdrawingOut, Taken}
pub use Rattle.fak_model.specs.declared.queue.Stage.{Stage}
pub use Rattle.fak_model.specs.declared.room.RoomKind.TheVariants.{Over, Back, No, Up, Release}
pub use Rattle.fak_model.specs.declared.room.RoomKind.{RoomKind}
pub use Rattle.fak_model.specs.declared.room.RoomMark.{RoomMark}
pub use Rattle.fak_model.specs.declared.view.View.{View}
pub use Rattle.std.proofs.Common.{◌≡◌, ◌≢◌, ◌⊎◌, ℕ, ◌==◌, Bool, true, false, List, [], ◌∷◌, ◌++◌, refl, ap, sym, ◌∙◌, subst, arith, inl, inr, append_assoc, map, filter, flat_map, ◌+◌, ◌<◌, ◌≤◌, length, length-append, take, reverse, ◌↔◌, IsTrue, get_or, take_all, ◌-◌, drop, Option, Some, None, min, cond, pos, ◌-ℤ◌, int_lt, append-nil, zero, suc, ltb, Decides, ◌&&◌, ◌||◌, sum_by, ◌*◌, ⊎_elim, rules, All, not, length-drop, ◌/◌, nat_lt, suc-mul, set, slice_index, true≢false, slice_index_or, slice_set, replicate, get_or-set_same, get_or-set_other}
pub use Rattle.std.proofs.Math.Nat.{mul-div_cancel_left, div-le_self}
pub use Rattle.std.proofs.lemmas.Bool.Decides.{nat_tests, Decides-eqb, Decides-ltb, Decides-like, Decides-and, not_from_Decides, Decides-or, Decides-not}
pub use Rattle.std.proofs.lemmas.Bool.{cases_lt, false_from_ne_true}
pub use Rattle.std.proofs.lemmas.Grind.{flat_map-append, common_steps}
pub use Rattle.std.proofs.lemmas.Int.{ints}
pub use Rattle.std.proofs.lemmas.List.Elements.{filter-append, All-push, All-nil, All-head, All-tail, All-cons, All-pop, All-append, All-weaker}
pub use Rattle.std.proofs.lemmas.List.Sorted.{IsPermutation-trans, IsPermutation-map, sum_by-IsPermutation}
pub use Rattle.std.proofs.lemmas.List.Sums.{sum_by_push, sum_by-cons, sum_by-append, sum_by-take-drop}
pub use Rattle.std.proofs.lemmas.List.{take-append-le, get_or-replicate, reverse-reverse, length-replicate, length-reverse, reverse-append, map-append, get_or-map, length-map, nil_from_length, take_more, map_push, take-append-drop}
pub use Rattle.std.proofs.lemmas.Option.{slice_get_within, slice_get-get_or, get_or_from_slice_get, slice_get_read}
pub use Rattle.std.proofs.lemmas.Result.{err_from_is_err_and}
pub use Rattle.std.specs.Arc.{arc_value}
pub use Rattle.std.specs.Cmp.Lexicographic.{slice_cmp}
pub use Rattle.std.specs.List.{list_any}
pub use lib.ListN.{get_elem?}
pub use mathlib.Core.Option.{some, some-injective, some-ne-none, none}
