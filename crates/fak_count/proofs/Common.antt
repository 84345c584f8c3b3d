-- The names that proofs cite most, passed on from one place. This file declares nothing.
pub use Rattle.atomic_table.specs.Seated.{TableId}
pub use Rattle.atomic_table.specs.Table.{State, Act, keeps, stepped, carried_after, Valid, opening, Allows}
pub use Rattle.fak_core.specs.declared.room.phase.RoomPhase.TheVariants.{Idle, Adding, Backing, Testing, Releasing}
pub use Rattle.fak_count.specs.CreditShown.{CreditHolder, credit_mark, credit_object, FoundValue, MadeMark, Observed, CreditView, opened_credit, IsShownCredit, HeardJoin}
pub use Rattle.fak_count.specs.Credits.{CreditInfo}
pub use Rattle.fak_count.specs.Opening.{IsCount}
pub use Rattle.fak_model.specs.Limits.{IsInLargeRange}
pub use Rattle.fak_count.specs.RoomShown.{RoomHolder, room_mark, LeavesRoom, Holds, Tested, Added, Lowered, room_object}
pub use Rattle.fak_count.specs.Rooms.{RoomInfo, room_seat, IsSettled}
pub use Rattle.fak_count.specs.Words.{count_place, KeepsCount}
pub use Rattle.fak_count.specs.declared.credits.limits.CreditLimits.{CreditLimits}
pub use Rattle.fak_count.specs.declared.rooms.limits.RoomLimits.{RoomLimits}
pub use Rattle.fak_model.proofs.Common.{ints, bias, IsAtRest, marks_of, sight, Leaves, ObjectId, object_id, SeatInfo, seat_info, Appends, before_appended, IsSeatToken, reverse-append, some, get_elem?, sum_by-append, sum_by-cons, TallyInfo, IsJoined, before_mark, nat_tests, slice_get_within, slice_get-get_or, get_or-replicate, IsHistory, AreOwn, room_rules, tally_info}
pub use Rattle.fak_model.proofs.CreditLaw.{every_history}
pub use Rattle.fak_model.proofs.Resting.{rest_after, rest_none, rest_joined, rest_whole}
pub use Rattle.fak_model.proofs.RoomLaw.{releases_le, room_rests}
pub use Rattle.fak_model.proofs.RunningCalls.{token_names, token_left, token_slots, step_appends, token_after, step_before, mine_after, begins_after, appends_then, appends_none, sees_knows, token_name, token_phase}
pub use Rattle.fak_model.proofs.RunningJoins.{deals, dealt_is, kept_is, fresh_token, fresh_next, rest_from, tally_at, seat_at, may_join, token_joined, set_joined, call_joined, whole_set}
pub use Rattle.fak_model.proofs.RunningSeats.{starts, hears}
pub use Rattle.fak_model.proofs.RunningSteps.{AreLawful, Advances, steps, observes, bears, sees_now, stands_now}
pub use Rattle.fak_model.proofs.Seats.{begins_self, seen_lawful, whole_mine}
pub use Rattle.fak_model.specs.Credit.{kind_of, value, credit_rules, debit_weight, credit_weight, debits, credits}
pub use Rattle.fak_model.specs.Room.{seat_of, amount_held, Granted, Refused, Withdrawn, Released}
pub use Rattle.fak_model.specs.declared.credit.CreditKind.{CreditKind}
pub use Rattle.fak_model.specs.declared.credit.CreditMark.{CreditMark}
pub use Rattle.fak_model.specs.declared.room.RoomKind.TheVariants.{Up, Over, Back, No, Release}
pub use Rattle.fak_model.specs.declared.room.RoomKind.{RoomKind}
pub use Rattle.fak_model.specs.declared.room.RoomMark.{RoomMark}
pub use Rattle.std.proofs.Common.{◌≡◌, ℕ, ◌+◌, ◌-◌, ◌%◌, ◌^◌, ◌<◌, ◌≤◌, ℤ, pos, ◌+ℤ◌, ◌-ℤ◌, List, length-set, set, ap, ◌∙◌, arith, mod-eq_of_lt, get_or-set_same, [], ◌∷◌, length, length-append, refl, sym, subst, inl, reverse, map, flat_map, suc, ◌*◌, ◌++◌, slice_index, Some, sum_by, ◌≢◌, Bool, true, false, slice_get, Option, None, ◌≤ℤ◌, ◌<ℤ◌, nat_lt, replicate, Ok, rules, w64, inr, not, is_ok}
pub use Rattle.std.proofs.Math.Facts.{to_z-of_z}
pub use Rattle.std.proofs.Math.Nat.{add-mod_left, mul-le-mul}
