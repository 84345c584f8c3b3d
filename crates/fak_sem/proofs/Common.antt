-- The names that proofs cite most, passed on from one place. This file declares nothing.
pub use Rattle.fak_count.specs.Credits.{CreditInfo, MakesCall, calls_made}
pub use Rattle.fak_model.proofs.Common.{count, puts, gots, marks_of}
pub use Rattle.fak_model.proofs.CreditLaw.{granted_is, every_history}
pub use Rattle.fak_model.proofs.Leading.{sum_none, sum_one, sum_same}
pub use Rattle.fak_model.proofs.QueueBackwards.{items_count, count_append}
pub use Rattle.fak_model.proofs.Seats.{in_either, marks_of_append, between_foreign, whole_mine}
pub use Rattle.fak_model.specs.Calls.{ObjectId, SeatInfo, seat_info, fresh_seats, mine_of, last_of}
pub use Rattle.fak_model.specs.declared.credit.CreditKind.TheVariants.{Debit, Credit}
pub use Rattle.fak_model.specs.declared.credit.CreditKind.{CreditKind}
pub use Rattle.fak_model.specs.declared.credit.CreditMark.{CreditMark}
pub use Rattle.fak_model.specs.declared.queue.Kind.{Kind}
pub use Rattle.fak_model.specs.declared.queue.Mark.{Mark}
pub use Rattle.fak_queue.proofs.AfterRefusals.{made_by_append, flat_map_push, IsRetrying, leads, leads_in, left_so_far, refused_again, at_last}
pub use Rattle.fak_queue.proofs.Weighing.{none_in, none_out, count_at_last}
pub use Rattle.fak_queue.specs.Queues.{seat_of, QueueInfo, Makes, made_by, drawn_by, state_of, kinds_in, kinds_out, Fills, WaitsToFill, Takes, WaitsToTake}
pub use Rattle.fak_queue.specs.Retries.{kinds_not_in, kinds_not_out, InsertsAtLast, DeletesAtLast, RefusedInsertion, InsertsAfterFull, ClosesAfterFull, MakesAtLast}
pub use Rattle.fak_queue.specs.declared.state.SeatState.TheVariants.{Idle}
pub use Rattle.fak_sem.specs.Grants.{weight_from, parks, wakes, of_all, downs_parked_by, ups_waking_by, IsMatched, IsSettled, of_name, passes}
pub use Rattle.fak_sem.specs.Semaphores.{SemId, SemTallyInfo, seats_of, IsSemSeat, IsSemTally, sem_tally, SemSeatInfo, sem_seat, fresh_sem_seats, SemInfo, sem_info, one_if_some, one_if_none, CountsDown, CountsUp, queue_part, Downs, Ups}
pub use Rattle.fak_sem.specs.Steps.{ClaimsRoom, ClaimsItem, HasMade, HasMadeAtLast, ParkedSoFar, WokenSoFar, StepSeatInfo, step_seat, IsStepSeat, ParksSince, WakesSince, CountsAsBegun, one_if}
pub use Rattle.fak_sem.specs.declared.standing.Standing.TheVariants.{Parking, Waking}
pub use Rattle.fak_sem.specs.declared.standing.Standing.{Standing}
pub use Rattle.std.proofs.Common.{◌≡◌, ◌≢◌, ℕ, ◌+◌, ◌<◌, ◌==◌, true, false, List, [], ◌∷◌, ◌++◌, length-drop, refl, ap, sym, ◌∙◌, subst, arith, inl, inr, All, flat_map, append-nil, zero, suc, ℤ, pos, int_lt, Option, ◌≤◌, Bool, cond, length, append_assoc, map, rules, ◌-◌, Some, length-append, None, ◌<ℤ◌, w64}
pub use Rattle.std.proofs.Math.Facts.{to_z-of_z}
pub use Rattle.std.proofs.lemmas.Grind.{common_steps}
