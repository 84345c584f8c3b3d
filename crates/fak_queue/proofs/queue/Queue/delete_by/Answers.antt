use Rattle.fak_model.specs.Calls.{object_id}
use Rattle.fak_queue.proofs.Common.{Alike, Taken, RefusesEmpty, queue_seat, rules, refl, sym, ap, ◌∙◌, subst, arith, Some, w64, to_z-of_z, token_names, TurnOut}
use Rattle.fak_queue.proofs.States.{rests_deleting}
use Rattle.fak_queue.proofs.PartSteps.{names_then, phase_then, slots_then}
use Rattle.fak_queue.proofs.SeatCalls.{noted_refused, idle_token, seat_refused, state_refused, drawn_refused, refuses_empty}
use Rattle.fak_queue.proofs.AtOnce.{noted_deleted, seat_deleted, state_deleted, drawn_deleted, deletes}
use Rattle.fak_queue.proofs.Admissions.{refused_out}
use Rattle.fak_queue.proofs.SeatParts.{noted_is, seat_is}
use Rattle.fak_queue.proofs.queue.Queue.delete_by.Goals as goal

pub admit_deletion-requires-clause-token : goal.admit_deletion-requires-clause-token
admit_deletion-requires-clause-token g c = record { table = search rules; seat = search rules; free = search rules; phase = (ap (λ m. m.0.phase) (idle_token c.seat.invariant (seat_is c.seat.view_is) c.requires.idle).me_is) }

pub place-place-requires : goal.place-place-requires
place-place-requires g c = (rests_deleting (c.in-Ok.ensures.told c.seat.inside.name (token_names c.seat.invariant.token)).part.rests).1

pub wait_to_empty-requires : goal.wait_to_empty-requires
wait_to_empty-requires g c = let part = (c.in-Ok.ensures.told c.seat.inside.name (token_names c.seat.invariant.token)).part in record { table = search rules; place = search rules; seat = (c.seat.inside.name, names_then part); free = slots_then part; phase = phase_then (c.in-Ok.ensures.told c.seat.inside.name (token_names c.seat.invariant.token)).part ∙ ap (λ k. Some (Alike (TurnOut k))) (sym c.place-place.ensures.ticket) }

pub invariant_of-seat : goal.invariant_of-seat
invariant_of-seat g c = seat_deleted c.self.inside.table.shared.key c.seat.invariant c.self.invariant (seat_is c.seat.view_is) c.self.view_is c.requires.object c.admit_deletion.ensures.same c.wait_to_empty.ensures.same c.admit_deletion.new.token.me c.wait_to_empty.new.token.me (c.in-Ok.ensures.told c.seat.inside.name (token_names c.seat.invariant.token)) (subst (λ k. Taken c.self.inside.table.shared.table_id.slots c.self.inside.table.shared.key.seats c.seat.inside.name k c.wait_to_empty.result c.admit_deletion.new.token.me c.wait_to_empty.new.token.me) c.place-place.ensures.ticket (c.wait_to_empty.ensures.told c.seat.inside.name (names_then (c.in-Ok.ensures.told c.seat.inside.name (token_names c.seat.invariant.token)).part))) c.requires.idle

pub returns-in-Ok-clause-state : goal.returns-in-Ok-clause-state
returns-in-Ok-clause-state g c = state_deleted c.self.inside.table.shared.key c.seat.invariant c.self.invariant (seat_is c.seat.view_is) c.self.view_is c.requires.object c.admit_deletion.ensures.same c.wait_to_empty.ensures.same c.admit_deletion.new.token.me c.wait_to_empty.new.token.me (c.in-Ok.ensures.told c.seat.inside.name (token_names c.seat.invariant.token)) (subst (λ k. Taken c.self.inside.table.shared.table_id.slots c.self.inside.table.shared.key.seats c.seat.inside.name k c.wait_to_empty.result c.admit_deletion.new.token.me c.wait_to_empty.new.token.me) c.place-place.ensures.ticket (c.wait_to_empty.ensures.told c.seat.inside.name (names_then (c.in-Ok.ensures.told c.seat.inside.name (token_names c.seat.invariant.token)).part)))

pub returns-in-Ok-clause-left : goal.returns-in-Ok-clause-left
returns-in-Ok-clause-left g c = drawn_deleted c.self.inside.table.shared.key c.seat.invariant c.self.invariant (seat_is c.seat.view_is) c.self.view_is c.requires.object c.admit_deletion.ensures.same c.wait_to_empty.ensures.same c.admit_deletion.new.token.me c.wait_to_empty.new.token.me (c.in-Ok.ensures.told c.seat.inside.name (token_names c.seat.invariant.token)) (subst (λ k. Taken c.self.inside.table.shared.table_id.slots c.self.inside.table.shared.key.seats c.seat.inside.name k c.wait_to_empty.result c.admit_deletion.new.token.me c.wait_to_empty.new.token.me) c.place-place.ensures.ticket (c.wait_to_empty.ensures.told c.seat.inside.name (names_then (c.in-Ok.ensures.told c.seat.inside.name (token_names c.seat.invariant.token)).part)))

pub returns-in-Ok-clause-call : goal.returns-in-Ok-clause-call
returns-in-Ok-clause-call g c = deletes c.self.inside.table.shared.key c.seat.invariant c.self.invariant (seat_is c.seat.view_is) c.self.view_is c.requires.object c.admit_deletion.ensures.same c.wait_to_empty.ensures.same c.admit_deletion.new.token.me c.wait_to_empty.new.token.me (c.in-Ok.ensures.told c.seat.inside.name (token_names c.seat.invariant.token)) (subst (λ k. Taken c.self.inside.table.shared.table_id.slots c.self.inside.table.shared.key.seats c.seat.inside.name k c.wait_to_empty.result c.admit_deletion.new.token.me c.wait_to_empty.new.token.me) c.place-place.ensures.ticket (c.wait_to_empty.ensures.told c.seat.inside.name (names_then (c.in-Ok.ensures.told c.seat.inside.name (token_names c.seat.invariant.token)).part))) (let some_left = c.if-seat-eq0.false in omega (arith, some_left))

pub invariant_of-seat-in-Err : goal.invariant_of-seat-in-Err
invariant_of-seat-in-Err g c = seat_refused c.self.inside.table.shared.key c.seat.invariant c.self.invariant (seat_is c.seat.view_is) c.self.view_is c.requires.object c.admit_deletion.ensures.same c.admit_deletion.new.token.me refl refl (refused_out c.self.inside.table.shared.table_id.slots c.self.inside.table.shared.key.seats c.seat.inside.name c.seat.inside.token.me c.admit_deletion.new.token.me c.admit_deletion.new.withdraws _ (c.in-Err.ensures.told c.seat.inside.name (token_names c.seat.invariant.token))) c.requires.idle

pub returns-in-Err-clause-state : goal.returns-in-Err-clause-state
returns-in-Err-clause-state g c = state_refused c.self.inside.table.shared.key c.seat.invariant c.self.invariant (seat_is c.seat.view_is) c.self.view_is c.requires.object c.admit_deletion.ensures.same c.admit_deletion.new.token.me refl refl (refused_out c.self.inside.table.shared.table_id.slots c.self.inside.table.shared.key.seats c.seat.inside.name c.seat.inside.token.me c.admit_deletion.new.token.me c.admit_deletion.new.withdraws _ (c.in-Err.ensures.told c.seat.inside.name (token_names c.seat.invariant.token)))

pub returns-in-Err-clause-left : goal.returns-in-Err-clause-left
returns-in-Err-clause-left g c = drawn_refused c.self.inside.table.shared.key c.seat.invariant c.self.invariant (seat_is c.seat.view_is) c.self.view_is c.requires.object c.admit_deletion.ensures.same c.admit_deletion.new.token.me refl refl (refused_out c.self.inside.table.shared.table_id.slots c.self.inside.table.shared.key.seats c.seat.inside.name c.seat.inside.token.me c.admit_deletion.new.token.me c.admit_deletion.new.withdraws _ (c.in-Err.ensures.told c.seat.inside.name (token_names c.seat.invariant.token)))

pub returns-in-Err-clause-call : goal.returns-in-Err-clause-call
returns-in-Err-clause-call g c =
    let r = refuses_empty c.self.inside.table.shared.key c.seat.invariant c.self.invariant (seat_is c.seat.view_is) c.self.view_is c.requires.object c.admit_deletion.ensures.same c.admit_deletion.new.token.me (let some_left = c.if-seat-eq0.false in omega (arith, some_left)) (refused_out c.self.inside.table.shared.table_id.slots c.self.inside.table.shared.key.seats c.seat.inside.name c.seat.inside.token.me c.admit_deletion.new.token.me c.admit_deletion.new.withdraws _ (c.in-Err.ensures.told c.seat.inside.name (token_names c.seat.invariant.token))) in
    (r.0, subst (λ u. RefusesEmpty c.args.self.now.size u c.args.seat.now.seat (queue_seat (object_id c.admit_deletion.new.token.table_id c.seat.inside.seats) c.seat.inside.name c.seat.inside.left c.admit_deletion.new.token.me)) (sym (to_z-of_z {w = w64} (search rules))) r.1)

pub returns-in-Ok-clause-noted : goal.returns-in-Ok-clause-noted
returns-in-Ok-clause-noted g c = noted_deleted c.self.inside.table.shared.key c.seat.invariant c.self.invariant (seat_is c.seat.view_is) c.self.view_is c.requires.object c.admit_deletion.ensures.same c.wait_to_empty.ensures.same c.admit_deletion.new.token.me c.wait_to_empty.new.token.me (c.in-Ok.ensures.told c.seat.inside.name (token_names c.seat.invariant.token)) (subst (λ k. Taken c.self.inside.table.shared.table_id.slots c.self.inside.table.shared.key.seats c.seat.inside.name k c.wait_to_empty.result c.admit_deletion.new.token.me c.wait_to_empty.new.token.me) c.place-place.ensures.ticket (c.wait_to_empty.ensures.told c.seat.inside.name (names_then (c.in-Ok.ensures.told c.seat.inside.name (token_names c.seat.invariant.token)).part))) ∙ noted_is c.seat.view_is

pub returns-in-Err-clause-noted : goal.returns-in-Err-clause-noted
returns-in-Err-clause-noted g c = noted_refused c.self.inside.table.shared.key c.seat.invariant c.self.invariant (seat_is c.seat.view_is) c.self.view_is c.requires.object c.admit_deletion.ensures.same c.admit_deletion.new.token.me refl refl (refused_out c.self.inside.table.shared.table_id.slots c.self.inside.table.shared.key.seats c.seat.inside.name c.seat.inside.token.me c.admit_deletion.new.token.me c.admit_deletion.new.withdraws _ (c.in-Err.ensures.told c.seat.inside.name (token_names c.seat.invariant.token))) ∙ noted_is c.seat.view_is
