use Rattle.fak_queue.proofs.Common.{◌∙◌, ap, rules, sym, refl, subst, arith, w64, to_z-of_z, token_names, RefusesEmpty, queue_seat}
use Rattle.fak_model.specs.Calls.{object_id}
use Rattle.fak_queue.proofs.SeatCalls.{noted_refused, idle_token, left_less, seat_after, state_after, drawn_after, claims_out, seat_refused, state_refused, drawn_refused, refuses_empty, empties_by}
use Rattle.fak_queue.proofs.Admissions.{refused_out}
use Rattle.fak_queue.proofs.SeatParts.{noted_is, seat_is}
use Rattle.fak_queue.proofs.PartSteps.{noted_then}
use Rattle.fak_queue.proofs.queue.Queue.claim_delete_by.Goals as goal

pub admit_deletion-requires-clause-token : goal.admit_deletion-requires-clause-token
admit_deletion-requires-clause-token g c = record { table = search rules; seat = search rules; free = search rules; phase = (ap (λ m. m.0.phase) (idle_token c.seat.invariant (seat_is c.seat.view_is) c.requires.idle).me_is) }

pub invariant_of-seat : goal.invariant_of-seat
invariant_of-seat g c = seat_after c.self.inside.table.shared.key c.seat.invariant c.self.invariant (seat_is c.seat.view_is) c.self.view_is c.requires.object (c.in-Ok.ensures.told c.seat.inside.name (token_names c.seat.invariant.token)).part (left_less c.self.inside.table.shared.key c.seat.invariant c.self.invariant (seat_is c.seat.view_is) c.self.view_is c.requires.object) c.admit_deletion.ensures.same

pub invariant_of-seat-in-Err : goal.invariant_of-seat-in-Err
invariant_of-seat-in-Err g c = seat_refused c.self.inside.table.shared.key c.seat.invariant c.self.invariant (seat_is c.seat.view_is) c.self.view_is c.requires.object c.admit_deletion.ensures.same c.admit_deletion.new.token.me refl refl (refused_out c.self.inside.table.shared.table_id.slots c.self.inside.table.shared.key.seats c.seat.inside.name c.seat.inside.token.me c.admit_deletion.new.token.me c.admit_deletion.new.withdraws _ (c.in-Err.ensures.told c.seat.inside.name (token_names c.seat.invariant.token))) c.requires.idle

pub returns-in-Ok-clause-state : goal.returns-in-Ok-clause-state
returns-in-Ok-clause-state g c = state_after c.self.inside.table.shared.key c.seat.invariant c.self.invariant (seat_is c.seat.view_is) c.self.view_is c.requires.object (c.in-Ok.ensures.told c.seat.inside.name (token_names c.seat.invariant.token)).part (left_less c.self.inside.table.shared.key c.seat.invariant c.self.invariant (seat_is c.seat.view_is) c.self.view_is c.requires.object) c.admit_deletion.ensures.same

pub returns-in-Ok-clause-left : goal.returns-in-Ok-clause-left
returns-in-Ok-clause-left g c = drawn_after c.self.inside.table.shared.key c.seat.invariant c.self.invariant (seat_is c.seat.view_is) c.self.view_is c.requires.object (c.in-Ok.ensures.told c.seat.inside.name (token_names c.seat.invariant.token)).part (left_less c.self.inside.table.shared.key c.seat.invariant c.self.invariant (seat_is c.seat.view_is) c.self.view_is c.requires.object) c.admit_deletion.ensures.same

pub returns-in-Ok-clause-call : goal.returns-in-Ok-clause-call
returns-in-Ok-clause-call g c = claims_out c.self.inside.table.shared.key c.seat.invariant c.self.invariant (seat_is c.seat.view_is) c.self.view_is c.requires.object c.admit_deletion.ensures.same c.admit_deletion.new.token.me (let some_left = c.if-seat-eq0.false in omega (arith, some_left)) (c.in-Ok.ensures.told c.seat.inside.name (token_names c.seat.invariant.token))

pub returns-in-Err-clause-state : goal.returns-in-Err-clause-state
returns-in-Err-clause-state g c = state_refused c.self.inside.table.shared.key c.seat.invariant c.self.invariant (seat_is c.seat.view_is) c.self.view_is c.requires.object c.admit_deletion.ensures.same c.admit_deletion.new.token.me refl refl (refused_out c.self.inside.table.shared.table_id.slots c.self.inside.table.shared.key.seats c.seat.inside.name c.seat.inside.token.me c.admit_deletion.new.token.me c.admit_deletion.new.withdraws _ (c.in-Err.ensures.told c.seat.inside.name (token_names c.seat.invariant.token)))

pub returns-in-Err-clause-left : goal.returns-in-Err-clause-left
returns-in-Err-clause-left g c = drawn_refused c.self.inside.table.shared.key c.seat.invariant c.self.invariant (seat_is c.seat.view_is) c.self.view_is c.requires.object c.admit_deletion.ensures.same c.admit_deletion.new.token.me refl refl (refused_out c.self.inside.table.shared.table_id.slots c.self.inside.table.shared.key.seats c.seat.inside.name c.seat.inside.token.me c.admit_deletion.new.token.me c.admit_deletion.new.withdraws _ (c.in-Err.ensures.told c.seat.inside.name (token_names c.seat.invariant.token)))

pub returns-in-Err-clause-call : goal.returns-in-Err-clause-call
returns-in-Err-clause-call g c =
    let r = refuses_empty c.self.inside.table.shared.key c.seat.invariant c.self.invariant (seat_is c.seat.view_is) c.self.view_is c.requires.object c.admit_deletion.ensures.same c.admit_deletion.new.token.me (let some_left = c.if-seat-eq0.false in omega (arith, some_left)) (refused_out c.self.inside.table.shared.table_id.slots c.self.inside.table.shared.key.seats c.seat.inside.name c.seat.inside.token.me c.admit_deletion.new.token.me c.admit_deletion.new.withdraws _ (c.in-Err.ensures.told c.seat.inside.name (token_names c.seat.invariant.token))) in
    (r.0, subst (λ u. RefusesEmpty c.args.self.now.size u c.args.seat.now.seat (queue_seat (object_id c.admit_deletion.new.token.table_id c.seat.inside.seats) c.seat.inside.name c.seat.inside.left c.admit_deletion.new.token.me)) (sym (to_z-of_z {w = w64} (search rules))) r.1)

pub returns-in-Ok-clause-noted : goal.returns-in-Ok-clause-noted
returns-in-Ok-clause-noted g c = noted_then (c.in-Ok.ensures.told c.seat.inside.name (token_names c.seat.invariant.token)).part ∙ noted_is c.seat.view_is

pub returns-in-Err-clause-noted : goal.returns-in-Err-clause-noted
returns-in-Err-clause-noted g c = noted_refused c.self.inside.table.shared.key c.seat.invariant c.self.invariant (seat_is c.seat.view_is) c.self.view_is c.requires.object c.admit_deletion.ensures.same c.admit_deletion.new.token.me refl refl (refused_out c.self.inside.table.shared.table_id.slots c.self.inside.table.shared.key.seats c.seat.inside.name c.seat.inside.token.me c.admit_deletion.new.token.me c.admit_deletion.new.withdraws _ (c.in-Err.ensures.told c.seat.inside.name (token_names c.seat.invariant.token))) ∙ noted_is c.seat.view_is

pub returns-in-Err-clause-withdraws : goal.returns-in-Err-clause-withdraws
returns-in-Err-clause-withdraws g c = empties_by c.self.inside.table.shared.key c.seat.invariant c.self.invariant (seat_is c.seat.view_is) c.self.view_is c.requires.object c.admit_deletion.ensures.same c.admit_deletion.new.token.me c.admit_deletion.new.withdraws _ (c.in-Err.ensures.told c.seat.inside.name (token_names c.seat.invariant.token))
