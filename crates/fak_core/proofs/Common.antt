-- The names that proofs cite most, re-exported from one place. Declares nothing.
pub use Rattle.fak_core.specs.QueueFields.{QueueFields, queue_state, written_fields, moved_fields, or_idle, phase_step, step_of, IsSound, IsSoundWith, IsStep, LoadsPut, opening_fields, first_phase, phase_begin, begin_of, IsSmall, HasTicketBelow, IsWithin, IsBegun}
pub use Rattle.fak_core.specs.QueueMoves.{QueueState, with_at, with_phase, moved, load_item, move_by, next_move, past_after, written, with_mark, ticket_out}
pub use Rattle.fak_core.specs.QueueProgress.{IsIdleOnce, IsIdleWithin, steps_left, steps_made, HoldsTicketOf, seat_of, AreIdleFrom, MakesProgress, SomeSeatMoves, SomeHolderMoves, has_drawn, drawn_seats, EachSteps, IsRound, IsAdvance, after_rounds, round_robin}
pub use Rattle.fak_core.specs.QueueSchedule.{InCell, move_from, IsReached, LoadsItsItem, reached}
pub use Rattle.fak_core.specs.QueueWords.{fields_of}
pub use Rattle.fak_core.specs.Room.{history_of, opening}
pub use Rattle.fak_core.specs.RoomSchedule.{Advances, after_step, happens, run, RoomEvent, Begins, IsEvent, after_begin}
pub use Rattle.fak_core.specs.declared.call.RoomCall.{RoomCall}
pub use Rattle.fak_core.specs.declared.fault.CoreFault.{CoreFault}
pub use Rattle.fak_core.specs.declared.queue.phase.Phase.TheVariants.{Idle, TestUp, AddUp, BackUp, TicketIn, TurnIn, StoreItem, SetFull, EndInsert, TestLow, SubLow, BackLow, TicketOut, TurnOut, LoadItem, SetFree, EndDelete, SetShut}
pub use Rattle.fak_core.specs.declared.queue.phase.Phase.{Phase}
pub use Rattle.fak_core.specs.declared.queue.step.QueueMove.{QueueMove}
pub use Rattle.fak_core.specs.declared.queue.step.Write.{Write}
pub use Rattle.fak_core.specs.declared.room.phase.CoreSeat.{CoreSeat}
pub use Rattle.fak_core.specs.declared.room.phase.RoomPhase.{RoomPhase}
pub use Rattle.fak_core.specs.declared.room.step.RoomMove.{RoomMove}
pub use Rattle.fak_model.proofs.Appending.{seat_words-other, call_begins, history_none, history_owed, seat_words-own}
pub use Rattle.fak_model.proofs.Common.{get_or_from_slice_get, slice_get_read, item_at, item_in, items_put, item_of, count, puts, gots, upper_count, lower_count, Has, stage, IsLegalPast, reverse-reverse, Drew, MayFollow, after, IsQueueHistory, ints, slice_get_within, SeatsBelow, nat_tests, All-push, All-nil, All-head, All-tail, AreNamed, sum_by_push, words_by, Owes, sum_by-cons, slice_get-get_or, sum_below, IsRoomHistory, length-reverse}
pub use Rattle.fak_model.proofs.Deciding.{same_or_not, cond_here, cond_else}
pub use Rattle.fak_model.proofs.Leading.{total_push, calls_lead, owes_even, sum_same, sum_parts, sum_plus, sum_most, sum_term, sum_le}
pub use Rattle.fak_model.proofs.QueueBackwards.{item_same, items_push, last_of, drew}
pub use Rattle.fak_model.proofs.QueueCounts.{claimed_out_left, count_few, contents_bounded, upper_range, lower_range, seat_bound}
pub use Rattle.fak_model.proofs.QueueDrawn.{in_drawn, stage_beyond, drawn_few, filled_or_putting, taken_or_getting}
pub use Rattle.fak_model.proofs.QueueLiteral.{to_literal}
pub use Rattle.fak_model.proofs.QueueStages.{after_getting, stage_here, stage_else}
pub use Rattle.fak_model.proofs.QueueTickets.{item_stays, putting_one, putting_unfilled, getting_one, getting_untaken, item_there, a_put_bit, putting_below, getting_below, putting_item, fill_below}
pub use Rattle.fak_model.proofs.Reversing.{reverse_cons}
pub use Rattle.fak_model.proofs.RoomLaw.{releases_le, backs_after, call_even, held_fits}
pub use Rattle.fak_model.specs.Room.{kinds_of_call, value, amount_held, room_rules, over_amount, back_amount, total}
pub use Rattle.fak_model.specs.declared.queue.Kind.TheVariants.{Put, Fill, Take, Close, Got, ClaimIn, OverIn, BackIn, NoRoom, EndIn, ClaimOut, OverOut, BackOut, NoItem, EndOut, Closed, LateIn}
pub use Rattle.fak_model.specs.declared.queue.Kind.{Kind}
pub use Rattle.fak_model.specs.declared.queue.Mark.{Mark}
pub use Rattle.fak_model.specs.declared.queue.Stage.TheVariants.{Getting, Putting, Withdrawing, Claimed, Filled, WithdrawingOut, ClaimedOut, Taken}
pub use Rattle.fak_model.specs.declared.room.RoomKind.TheVariants.{Back}
pub use Rattle.fak_model.specs.declared.room.RoomKind.{RoomKind}
pub use Rattle.fak_model.specs.declared.room.RoomMark.{RoomMark}
pub use Rattle.std.proofs.Common.{◌≡◌, ◌≢◌, ℕ, ◌<◌, List, length, Some, ap, sym, ◌∙◌, arith, slice_get, slice_set, replicate, subst, ◌+◌, ◌*◌, ◌/◌, ◌%◌, ◌==◌, int_lt, pos, ◌++◌, zero, suc, [], ◌∷◌, get_or, reverse, Option, None, Ok, refl, inl, inr, IsSome, ◌⊎◌, ◌-◌, Bool, ℤ, cond, true, false, ◌≤◌, mod-lt, ◌+ℤ◌, ◌-ℤ◌, w64, to_z, of_z, Result, Err, ◌≤ℤ◌, ◌<ℤ◌, nat_lt, All, sum_by, rules, ◌^◌}
pub use Rattle.std.proofs.Math.Nat.{add-mod_right, add-div_right, div-add-mod}
pub use Rattle.std.proofs.lemmas.Grind.{common_steps}
pub use Rattle.std.proofs.lemmas.List.{length-set, get_or-set_same, get_or-set_other, get_or-replicate, length-replicate}
pub use Rattle.std.specs.Int.{w128}
pub use Rattle.std.specs.Prelude.{min}
