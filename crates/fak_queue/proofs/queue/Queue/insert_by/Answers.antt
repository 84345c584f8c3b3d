use Rattle.fak_model.specs.Calls.{object_id}
use Rattle.fak_queue.proofs.Common.{◌∙◌, rules, Filled, Inserts, drawn_by, queue_seat, RefusesInsertion, ap, ◌≡◌, ◌+◌, MatchResult, sym, subst, arith, token_names}
use Rattle.fak_queue.proofs.States.{rests_inserting}
use Rattle.fak_queue.proofs.PartSteps.{names_then, slots_then}
use Rattle.fak_queue.proofs.SeatCalls.{noted_refused_in, idle_token, seat_refused_in, state_refused_in, drawn_refused_in, refuses_insertion}
use Rattle.fak_queue.proofs.AtOnce.{noted_inserted, seat_inserted, state_inserted, drawn_inserted, inserts}
use Rattle.fak_queue.proofs.Admissions.{refused_in}
use Rattle.fak_queue.proofs.SeatParts.{noted_is, seat_is}
use Rattle.fak_queue.proofs.queue.Queue.insert_by.Goals as goal

pub admit_insertion-requires-clause-token : goal.admit_insertion-requires-clause-token
admit_insertion-requires-clause-token g c = record { table = search rules; seat = search rules; free = search rules; phase = (ap (λ m. m.0.phase) (idle_token c.seat.invariant (seat_is c.seat.view_is) c.requires.idle).me_is) }

pub place-place-requires : goal.place-place-requires
place-place-requires g c = (rests_inserting (c.in-Ok.ensures.told c.seat.inside.name (token_names c.seat.invariant.token)).part.rests).1

pub wait_to_fill-requires : goal.wait_to_fill-requires
wait_to_fill-requires g c = let part = (c.in-Ok.ensures.told c.seat.inside.name (token_names c.seat.invariant.token)).part in record { table = search rules; place = search rules; seat = (c.seat.inside.name, names_then part); free = slots_then part; phase = search rules }

pub invariant_of-seat : goal.invariant_of-seat
invariant_of-seat g c = seat_inserted c.self.inside.table.shared.key c.seat.invariant c.self.invariant (seat_is c.seat.view_is) c.self.view_is c.requires.object c.admit_insertion.ensures.same c.wait_to_fill.ensures.same c.admit_insertion.new.token.me c.wait_to_fill.new.token.me (c.in-Ok.ensures.told c.seat.inside.name (token_names c.seat.invariant.token)) (subst (λ k. Filled c.self.inside.table.shared.table_id.slots c.self.inside.table.shared.key.seats c.seat.inside.name k c.admit_insertion.new.token.me c.wait_to_fill.new.token.me) c.place-place.ensures.ticket (c.wait_to_fill.ensures.told c.seat.inside.name (names_then (c.in-Ok.ensures.told c.seat.inside.name (token_names c.seat.invariant.token)).part))) c.requires.idle

pub returns-in-Ok-clause-state : goal.returns-in-Ok-clause-state
returns-in-Ok-clause-state g c = state_inserted c.self.inside.table.shared.key c.seat.invariant c.self.invariant (seat_is c.seat.view_is) c.self.view_is c.requires.object c.admit_insertion.ensures.same c.wait_to_fill.ensures.same c.admit_insertion.new.token.me c.wait_to_fill.new.token.me (c.in-Ok.ensures.told c.seat.inside.name (token_names c.seat.invariant.token)) (subst (λ k. Filled c.self.inside.table.shared.table_id.slots c.self.inside.table.shared.key.seats c.seat.inside.name k c.admit_insertion.new.token.me c.wait_to_fill.new.token.me) c.place-place.ensures.ticket (c.wait_to_fill.ensures.told c.seat.inside.name (names_then (c.in-Ok.ensures.told c.seat.inside.name (token_names c.seat.invariant.token)).part)))

pub returns-in-Ok-clause-left : goal.returns-in-Ok-clause-left
returns-in-Ok-clause-left g c = drawn_inserted c.self.inside.table.shared.key c.seat.invariant c.self.invariant (seat_is c.seat.view_is) c.self.view_is c.requires.object c.admit_insertion.ensures.same c.wait_to_fill.ensures.same c.admit_insertion.new.token.me c.wait_to_fill.new.token.me (c.in-Ok.ensures.told c.seat.inside.name (token_names c.seat.invariant.token)) (subst (λ k. Filled c.self.inside.table.shared.table_id.slots c.self.inside.table.shared.key.seats c.seat.inside.name k c.admit_insertion.new.token.me c.wait_to_fill.new.token.me) c.place-place.ensures.ticket (c.wait_to_fill.ensures.told c.seat.inside.name (names_then (c.in-Ok.ensures.told c.seat.inside.name (token_names c.seat.invariant.token)).part)))

pub returns-in-Ok-clause-call : goal.returns-in-Ok-clause-call
returns-in-Ok-clause-call g c = inserts c.self.inside.table.shared.key c.seat.invariant c.self.invariant (seat_is c.seat.view_is) c.self.view_is c.requires.object c.admit_insertion.ensures.same c.wait_to_fill.ensures.same c.admit_insertion.new.token.me c.wait_to_fill.new.token.me (c.in-Ok.ensures.told c.seat.inside.name (token_names c.seat.invariant.token)) (subst (λ k. Filled c.self.inside.table.shared.table_id.slots c.self.inside.table.shared.key.seats c.seat.inside.name k c.admit_insertion.new.token.me c.wait_to_fill.new.token.me) c.place-place.ensures.ticket (c.wait_to_fill.ensures.told c.seat.inside.name (names_then (c.in-Ok.ensures.told c.seat.inside.name (token_names c.seat.invariant.token)).part))) (let some_left = c.if-seat-eq0.false in omega (arith, some_left))

pub invariant_of-seat-in-Err : goal.invariant_of-seat-in-Err
invariant_of-seat-in-Err g c = seat_refused_in c.self.inside.table.shared.key c.seat.invariant c.self.invariant (seat_is c.seat.view_is) c.self.view_is c.requires.object c.admit_insertion.ensures.same c.admit_insertion.new.token.me c.in-Err.reason (refused_in c.self.inside.table.shared.table_id.slots c.self.inside.table.shared.key.seats c.seat.inside.name c.seat.inside.token.me c.admit_insertion.new.token.me c.admit_insertion.new.withdraws c.in-Err.reason (c.in-Err.ensures.told c.seat.inside.name (token_names c.seat.invariant.token))) c.requires.idle

pub returns-in-Err-clause-state : goal.returns-in-Err-clause-state
returns-in-Err-clause-state g c = state_refused_in c.self.inside.table.shared.key c.seat.invariant c.self.invariant (seat_is c.seat.view_is) c.self.view_is c.requires.object c.admit_insertion.ensures.same c.admit_insertion.new.token.me c.in-Err.reason (refused_in c.self.inside.table.shared.table_id.slots c.self.inside.table.shared.key.seats c.seat.inside.name c.seat.inside.token.me c.admit_insertion.new.token.me c.admit_insertion.new.withdraws c.in-Err.reason (c.in-Err.ensures.told c.seat.inside.name (token_names c.seat.invariant.token)))

pub returns-in-Err-clause-left : goal.returns-in-Err-clause-left
returns-in-Err-clause-left g c =
    let new = queue_seat (object_id c.admit_insertion.new.token.table_id c.seat.inside.seats) c.seat.inside.name c.seat.inside.left c.admit_insertion.new.token.me in
    subst (λ z. MatchResult z (λ _. drawn_by new ≡ drawn_by c.args.seat.now.seat + 1) (λ _. drawn_by new ≡ drawn_by c.args.seat.now.seat)) (sym c.refuse.ensures) (drawn_refused_in c.self.inside.table.shared.key c.seat.invariant c.self.invariant (seat_is c.seat.view_is) c.self.view_is c.requires.object c.admit_insertion.ensures.same c.admit_insertion.new.token.me c.in-Err.reason (refused_in c.self.inside.table.shared.table_id.slots c.self.inside.table.shared.key.seats c.seat.inside.name c.seat.inside.token.me c.admit_insertion.new.token.me c.admit_insertion.new.withdraws c.in-Err.reason (c.in-Err.ensures.told c.seat.inside.name (token_names c.seat.invariant.token))))

pub returns-in-Err-clause-call : goal.returns-in-Err-clause-call
returns-in-Err-clause-call g c =
    let new = queue_seat (object_id c.admit_insertion.new.token.table_id c.seat.inside.seats) c.seat.inside.name c.seat.inside.left c.admit_insertion.new.token.me in
    subst (λ z. MatchResult z (λ k. Inserts c.args.self.now.size k c.args.item c.args.seat.now.seat new) (RefusesInsertion c.args.self.now.size c.args.item c.args.seat.now.seat new)) (sym c.refuse.ensures) (refuses_insertion c.self.inside.table.shared.key c.seat.invariant c.self.invariant (seat_is c.seat.view_is) c.self.view_is c.requires.object c.admit_insertion.ensures.same c.admit_insertion.new.token.me c.args.item c.in-Err.reason (let some_left = c.if-seat-eq0.false in omega (arith, some_left)) (refused_in c.self.inside.table.shared.table_id.slots c.self.inside.table.shared.key.seats c.seat.inside.name c.seat.inside.token.me c.admit_insertion.new.token.me c.admit_insertion.new.withdraws c.in-Err.reason (c.in-Err.ensures.told c.seat.inside.name (token_names c.seat.invariant.token))))

pub returns-in-Ok-clause-noted : goal.returns-in-Ok-clause-noted
returns-in-Ok-clause-noted g c = noted_inserted c.self.inside.table.shared.key c.seat.invariant c.self.invariant (seat_is c.seat.view_is) c.self.view_is c.requires.object c.admit_insertion.ensures.same c.wait_to_fill.ensures.same c.admit_insertion.new.token.me c.wait_to_fill.new.token.me (c.in-Ok.ensures.told c.seat.inside.name (token_names c.seat.invariant.token)) (subst (λ k. Filled c.self.inside.table.shared.table_id.slots c.self.inside.table.shared.key.seats c.seat.inside.name k c.admit_insertion.new.token.me c.wait_to_fill.new.token.me) c.place-place.ensures.ticket (c.wait_to_fill.ensures.told c.seat.inside.name (names_then (c.in-Ok.ensures.told c.seat.inside.name (token_names c.seat.invariant.token)).part))) ∙ noted_is c.seat.view_is

pub returns-in-Err-clause-noted : goal.returns-in-Err-clause-noted
returns-in-Err-clause-noted g c = noted_refused_in c.self.inside.table.shared.key c.seat.invariant c.self.invariant (seat_is c.seat.view_is) c.self.view_is c.requires.object c.admit_insertion.ensures.same c.admit_insertion.new.token.me c.in-Err.reason (refused_in c.self.inside.table.shared.table_id.slots c.self.inside.table.shared.key.seats c.seat.inside.name c.seat.inside.token.me c.admit_insertion.new.token.me c.admit_insertion.new.withdraws c.in-Err.reason (c.in-Err.ensures.told c.seat.inside.name (token_names c.seat.invariant.token))) ∙ noted_is c.seat.view_is
