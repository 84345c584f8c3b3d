use Rattle.fak_model.specs.Calls.{object_id}
use Rattle.fak_queue.proofs.Common.{◌∙◌, rules, Idle, Inserting, ClaimsIn, drawn_by, state_of, queue_seat, RefusesInsertion, ap, ◌≡◌, ◌+◌, MatchResult, sym, subst, arith, token_names}
use Rattle.fak_queue.proofs.SeatCalls.{noted_refused_in, idle_token, left_less, seat_after, state_after, drawn_after, claims_in, seat_refused_in, state_refused_in, drawn_refused_in, refuses_insertion, refuses_by}
use Rattle.fak_queue.specs.Refusals.{RefusesInsertionBy}
use Rattle.fak_queue.proofs.Admissions.{refused_in}
use Rattle.fak_queue.proofs.SeatParts.{noted_is, seat_is}
use Rattle.fak_queue.proofs.PartSteps.{noted_then}
use Rattle.fak_queue.proofs.queue.Queue.claim_insert_by.Goals as goal

pub admit_insertion-requires-clause-token : goal.admit_insertion-requires-clause-token
admit_insertion-requires-clause-token g c = record { table = search rules; seat = search rules; free = search rules; phase = (ap (λ m. m.0.phase) (idle_token c.seat.invariant (seat_is c.seat.view_is) c.requires.idle).me_is) }

pub invariant_of-seat : goal.invariant_of-seat
invariant_of-seat g c = seat_after c.self.inside.table.shared.key c.seat.invariant c.self.invariant (seat_is c.seat.view_is) c.self.view_is c.requires.object (c.in-Ok.ensures.told c.seat.inside.name (token_names c.seat.invariant.token)).part (left_less c.self.inside.table.shared.key c.seat.invariant c.self.invariant (seat_is c.seat.view_is) c.self.view_is c.requires.object) c.admit_insertion.ensures.same

pub invariant_of-seat-in-Err : goal.invariant_of-seat-in-Err
invariant_of-seat-in-Err g c = seat_refused_in c.self.inside.table.shared.key c.seat.invariant c.self.invariant (seat_is c.seat.view_is) c.self.view_is c.requires.object c.admit_insertion.ensures.same c.admit_insertion.new.token.me c.in-Err.reason (refused_in c.self.inside.table.shared.table_id.slots c.self.inside.table.shared.key.seats c.seat.inside.name c.seat.inside.token.me c.admit_insertion.new.token.me c.admit_insertion.new.withdraws c.in-Err.reason (c.in-Err.ensures.told c.seat.inside.name (token_names c.seat.invariant.token))) c.requires.idle

pub returns-in-Ok-clause-state : goal.returns-in-Ok-clause-state
returns-in-Ok-clause-state g c = state_after c.self.inside.table.shared.key c.seat.invariant c.self.invariant (seat_is c.seat.view_is) c.self.view_is c.requires.object (c.in-Ok.ensures.told c.seat.inside.name (token_names c.seat.invariant.token)).part (left_less c.self.inside.table.shared.key c.seat.invariant c.self.invariant (seat_is c.seat.view_is) c.self.view_is c.requires.object) c.admit_insertion.ensures.same

pub returns-in-Ok-clause-left : goal.returns-in-Ok-clause-left
returns-in-Ok-clause-left g c = drawn_after c.self.inside.table.shared.key c.seat.invariant c.self.invariant (seat_is c.seat.view_is) c.self.view_is c.requires.object (c.in-Ok.ensures.told c.seat.inside.name (token_names c.seat.invariant.token)).part (left_less c.self.inside.table.shared.key c.seat.invariant c.self.invariant (seat_is c.seat.view_is) c.self.view_is c.requires.object) c.admit_insertion.ensures.same

pub returns-in-Ok-clause-call : goal.returns-in-Ok-clause-call
returns-in-Ok-clause-call g c = claims_in c.self.inside.table.shared.key c.seat.invariant c.self.invariant (seat_is c.seat.view_is) c.self.view_is c.requires.object c.admit_insertion.ensures.same c.admit_insertion.new.token.me (let some_left = c.if-seat-eq0.false in omega (arith, some_left)) (c.in-Ok.ensures.told c.seat.inside.name (token_names c.seat.invariant.token))

pub returns-in-Err-clause-state : goal.returns-in-Err-clause-state
returns-in-Err-clause-state g c =
    let new = queue_seat (object_id c.admit_insertion.new.token.table_id c.seat.inside.seats) c.seat.inside.name c.seat.inside.left c.admit_insertion.new.token.me in
    subst (λ z. MatchResult z (λ k. state_of new ≡ Inserting k) (λ _. state_of new ≡ Idle)) (sym c.refuse.ensures) (state_refused_in c.self.inside.table.shared.key c.seat.invariant c.self.invariant (seat_is c.seat.view_is) c.self.view_is c.requires.object c.admit_insertion.ensures.same c.admit_insertion.new.token.me c.in-Err.reason (refused_in c.self.inside.table.shared.table_id.slots c.self.inside.table.shared.key.seats c.seat.inside.name c.seat.inside.token.me c.admit_insertion.new.token.me c.admit_insertion.new.withdraws c.in-Err.reason (c.in-Err.ensures.told c.seat.inside.name (token_names c.seat.invariant.token))))

pub returns-in-Err-clause-left : goal.returns-in-Err-clause-left
returns-in-Err-clause-left g c =
    let new = queue_seat (object_id c.admit_insertion.new.token.table_id c.seat.inside.seats) c.seat.inside.name c.seat.inside.left c.admit_insertion.new.token.me in
    subst (λ z. MatchResult z (λ _. drawn_by new ≡ drawn_by c.args.seat.now.seat + 1) (λ _. drawn_by new ≡ drawn_by c.args.seat.now.seat)) (sym c.refuse.ensures) (drawn_refused_in c.self.inside.table.shared.key c.seat.invariant c.self.invariant (seat_is c.seat.view_is) c.self.view_is c.requires.object c.admit_insertion.ensures.same c.admit_insertion.new.token.me c.in-Err.reason (refused_in c.self.inside.table.shared.table_id.slots c.self.inside.table.shared.key.seats c.seat.inside.name c.seat.inside.token.me c.admit_insertion.new.token.me c.admit_insertion.new.withdraws c.in-Err.reason (c.in-Err.ensures.told c.seat.inside.name (token_names c.seat.invariant.token))))

pub returns-in-Err-clause-call : goal.returns-in-Err-clause-call
returns-in-Err-clause-call g c =
    let new = queue_seat (object_id c.admit_insertion.new.token.table_id c.seat.inside.seats) c.seat.inside.name c.seat.inside.left c.admit_insertion.new.token.me in
    subst (λ z. MatchResult z (λ k. ClaimsIn c.args.self.now.size k c.args.item c.args.seat.now.seat new) (RefusesInsertion c.args.self.now.size c.args.item c.args.seat.now.seat new)) (sym c.refuse.ensures) (refuses_insertion c.self.inside.table.shared.key c.seat.invariant c.self.invariant (seat_is c.seat.view_is) c.self.view_is c.requires.object c.admit_insertion.ensures.same c.admit_insertion.new.token.me c.args.item c.in-Err.reason (let some_left = c.if-seat-eq0.false in omega (arith, some_left)) (refused_in c.self.inside.table.shared.table_id.slots c.self.inside.table.shared.key.seats c.seat.inside.name c.seat.inside.token.me c.admit_insertion.new.token.me c.admit_insertion.new.withdraws c.in-Err.reason (c.in-Err.ensures.told c.seat.inside.name (token_names c.seat.invariant.token))))

pub returns-in-Ok-clause-noted : goal.returns-in-Ok-clause-noted
returns-in-Ok-clause-noted g c = noted_then (c.in-Ok.ensures.told c.seat.inside.name (token_names c.seat.invariant.token)).part ∙ noted_is c.seat.view_is

pub returns-in-Err-clause-noted : goal.returns-in-Err-clause-noted
returns-in-Err-clause-noted g c = noted_refused_in c.self.inside.table.shared.key c.seat.invariant c.self.invariant (seat_is c.seat.view_is) c.self.view_is c.requires.object c.admit_insertion.ensures.same c.admit_insertion.new.token.me c.in-Err.reason (refused_in c.self.inside.table.shared.table_id.slots c.self.inside.table.shared.key.seats c.seat.inside.name c.seat.inside.token.me c.admit_insertion.new.token.me c.admit_insertion.new.withdraws c.in-Err.reason (c.in-Err.ensures.told c.seat.inside.name (token_names c.seat.invariant.token))) ∙ noted_is c.seat.view_is

pub returns-in-Err-clause-withdraws : goal.returns-in-Err-clause-withdraws
returns-in-Err-clause-withdraws g c =
    let new = queue_seat (object_id c.admit_insertion.new.token.table_id c.seat.inside.seats) c.seat.inside.name c.seat.inside.left c.admit_insertion.new.token.me in
    subst (λ z. MatchResult z (λ _. Unit {0}) (RefusesInsertionBy c.admit_insertion.new.withdraws c.args.self.now.size c.args.seat.now.seat new)) (sym c.refuse.ensures)
    (refuses_by c.self.inside.table.shared.key c.seat.invariant c.self.invariant (seat_is c.seat.view_is) c.self.view_is c.requires.object c.admit_insertion.ensures.same c.admit_insertion.new.token.me c.admit_insertion.new.withdraws c.args.item c.in-Err.reason (c.in-Err.ensures.told c.seat.inside.name (token_names c.seat.invariant.token)))
