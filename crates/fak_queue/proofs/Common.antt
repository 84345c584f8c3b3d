-- The names that proofs cite most, passed on from one place. Declares nothing.
pub use Rattle.atomic_table.proofs.Lists.{set_else, one_turn, set_here}
pub use Rattle.atomic_table.specs.Seated.{TableId}
pub use Rattle.atomic_table.specs.Table.{Allows, carried_after, State, Final, Seen, keeps, takes, gives, homes_after, opening, Act, stepped, Valid, rest}
pub use Rattle.fak_core.proofs.Common.{QueueState, with_at, with_phase, moved, InCell, IsReached, AreIdleFrom, move_from}
pub use Rattle.fak_core.proofs.QueueKept.{IsKept, shown}
pub use Rattle.fak_core.proofs.QueueOwners.{in_cell, waits_take, waits_fill, alone}
pub use Rattle.fak_core.proofs.QueueReached.{kept, true_or_false, if_true, if_false, loads_put, draws_put, is_reached, legal_history}
pub use Rattle.fak_core.proofs.QueueTurns.{take_turn, le_or_lt, at_here, at_else, by_place}
pub use Rattle.fak_core.specs.declared.queue.phase.Phase.TheVariants.{TurnIn, TurnOut, StoreItem, EndInsert, LoadItem, EndDelete}
pub use Rattle.fak_core.specs.declared.queue.phase.Phase.{Phase}
pub use Rattle.fak_core.specs.declared.queue.step.QueueMove.{QueueMove}
pub use Rattle.fak_model.proofs.Common.{All-append, All-push, queue_rules, count, puts, gots, ObjectId, SeatInfo, Appends, mine_of, before_mark, some, get_elem?, All-head, All-tail, some-injective, some-ne-none, items_put, item_at, contents, Has, stage, item_of, IsWhole, reverse-reverse, nat_tests, none, lower_count, upper_count, length-map, length-replicate, get_or-replicate, seat_info, IsSeatToken, bias, marks_of, IsQueueHistory, In, object_id, ints, upper_raise, upper_drop, Owes, seat_words, words_of_call, after, lower_raise, lower_drop, SeatsBelow, AreOwn, AreNamed, IsAtRest, word, Knows, TallyInfo, IsJoined, sum_by-cons, mine, tally_of, put_of, got_of, item_in, IsNext, IsLegalPast, tally_info}
pub use Rattle.fak_model.proofs.QueueBackwards.{count_reverse, items_count, has_back, item_same, has_reverse, count_append, Last, last_of, drew}
pub use Rattle.fak_model.proofs.QueueCounts.{contents_bounded, upper_range, lower_range}
pub use Rattle.fak_model.proofs.QueueStages.{stage_else, stage_here, after_putting, after_getting}
pub use Rattle.fak_model.proofs.QueueTickets.{item_there, take_below, getting_below, item_stays}
pub use Rattle.fak_model.proofs.RunningCalls.{appends_then, appends_none, step_appends, step_before, begins_after, mine_after, token_names, token_left, token_slots, token_phase}
pub use Rattle.fak_model.proofs.RunningJoins.{deals, dealt_is, kept_is, fresh_token, fresh_next, rest_from, tally_at, seat_at, may_join, token_joined, set_joined, call_joined, whole_set, tally_token}
pub use Rattle.fak_model.proofs.RunningSeats.{hears, starts}
pub use Rattle.fak_model.proofs.RunningSteps.{steps, AreLawful, Advances, total_at}
pub use Rattle.fak_model.proofs.Seats.{begins_self, in_either, whole_mine}
pub use Rattle.fak_model.specs.Shown.{TellsNothing, total}
pub use Rattle.fak_model.specs.declared.queue.Kind.TheVariants.{Fill, Take, Put, Close, OverIn, BackIn, NoRoom, OverOut, BackOut, NoItem, Closed, LateIn}
pub use Rattle.fak_model.specs.declared.queue.Kind.{Kind}
pub use Rattle.fak_model.specs.declared.queue.Mark.{Mark}
pub use Rattle.fak_model.specs.declared.queue.Stage.TheVariants.{Getting, Putting}
pub use Rattle.fak_model.specs.declared.queue.Stage.{Stage}
pub use Rattle.fak_model.specs.Limits.{IsInLargeRange}
pub use Rattle.fak_queue.specs.Left.{items_left}
pub use Rattle.fak_queue.specs.Parts.{IsPart, ClaimedIn, RefusedIn, ClaimedOut, RefusedOut, TellsOfNeither, Filled, Taken, LooksIn, FillsSlot, LooksOut, TakesSlot, before_part, fault_of, IsTurnedAwayIn, IsTurnedAwayOut}
pub use Rattle.fak_queue.specs.Queues.{QueueInfo, size_of, made_by, Makes, Inserts, Deletes, RefusesFull, RefusesEmpty, RefusesClosed, ShutsAs, state_of, RestsAt, idle, inserting, deleting, seat_of, drawn_by, queue_info, IsQueue, queue_seat, IsQueueSeat, ClaimsIn, AreIdle, tickets_in, state_at, before_own, ClaimsOut, WaitsToFill, Fills, WaitsToTake, Takes, ShutsAfter, IsState, IsWorn, kinds_in, kinds_out}
pub use Rattle.fak_queue.specs.Refusals.{RefusesInsertion, IsInRange, IsLargeSize, RefusesDeletion}
pub use Rattle.fak_queue.specs.Retries.{RefusedInsertion, NotIn, WithdrawnIn, ClosedIn, WithdrawnLate, RefusedDeletion, NotOut, WithdrawnOut, kinds_not_in, kinds_not_out, InsertsAfterFull, IsFull, IsClosed, MakesAtLast, before_last, ClosesAfterFull, DeletesAfterEmpty}
pub use Rattle.fak_queue.specs.declared.phases.Phases.{Phases}
pub use Rattle.fak_queue.specs.declared.phases.Phases.TheVariants.{Alike, Each}
pub use Rattle.fak_queue.specs.Shown.{sight, Leaves, IsPost, StandsIn, QueueHolder, queue_object, IsShownQueue, QueueView, IsAtHome, IsEncoded, opened_queue, HasSlot}
pub use Rattle.fak_queue.specs.Steps.{mark, Named, ShutAs, TurnedIn, FilledCell, EndsIn, TurnedOut, FreedCell, EndsOut, Shuts, Marks, TestedUp, AddedUp, BacksUp, DrewIn, TestedLow, SubtractedLow, BacksLow, DrawsOut, TestsUp, AddsUp, DrawsIn, TurnsIn, SetsFull, TestsLow, SubtractsLow, TurnsOut, SetsFree, HeardJoin, WaitsOut, WaitsIn, FitsTable}
pub use Rattle.fak_queue.specs.Words.{UpperCount, LowerCount, IsUpperCount, AreWords, shut_bit, shut_part, IsLowerCount}
pub use Rattle.fak_queue.specs.declared.fault.DeleteFault.{DeleteFault}
pub use Rattle.fak_queue.specs.declared.found.NoRoom.TheVariants.{Full, Shut}
pub use Rattle.fak_queue.specs.declared.limits.QueueLimits.{QueueLimits}
pub use Rattle.fak_queue.specs.declared.state.SeatState.TheVariants.{Idle, Inserting, Deleting}
pub use Rattle.std.proofs.Common.{◌≡◌, ℕ, ◌-◌, ◌<◌, ◌^◌, List, [], ◌∷◌, refl, sym, ap, ◌∙◌, subst, inl, inr, Some, ℤ, Bool, true, false, reverse, ◌⊎◌, ◌+◌, arith, ◌++◌, length, length-append, append_assoc, All, flat_map, append-nil, ◌*◌, ◌/◌, ◌%◌, slice_index, bit_or, Option, None, zero, suc, ◌≤◌, drop, mod-lt, ◌≢◌, ◌==◌, set, length-set, pos, int_lt, mod-eq_of_lt, get_or, get_or-set_same, get_or-set_other, ⊎_elim, map, replicate, ◌↔◌, ◌+ℤ◌, nat_lt, ◌-ℤ◌, sum_by, cond, bit_and, MatchResult, rules, not, is_ok, w64}
pub use Rattle.std.proofs.Math.Facts.{to_z-of_z}
pub use Rattle.std.proofs.Math.Nat.{div-add-mod, div-le_self, div-mul-le_self, mod-eq-sub-div-mul, mul-le-mul, mul-le-mul_left, mul-le-mul_right, le_of_mul-le-mul_right, add-mod_left}
pub use Rattle.std.proofs.lemmas.Grind.{common_steps}
pub use Rattle.std.proofs.lemmas.List.Concat.{flat_map-append}
pub use Rattle.std.specs.Prelude.{Ok, Err}
pub use Rattle.std.specs.Slots.{slots_filled, slots_len, slots_items, slots_counts}
pub use Rattle.fak_queue.proofs.ReachedFrom.{IsReachedFrom, from_itself, reached_after, moves, inserts, deletes, closes}
pub use Rattle.fak_queue.proofs.Sleepers.{sleepers_after}
