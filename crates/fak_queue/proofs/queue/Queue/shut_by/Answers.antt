use Rattle.fak_queue.proofs.Common.{◌∙◌, rules, ap, token_names}
use Rattle.fak_queue.proofs.SeatCalls.{noted_shut, idle_token, seat_shut, state_shut, drawn_shut, shuts_as}
use Rattle.fak_queue.proofs.SeatParts.{noted_is, seat_is}
use Rattle.fak_queue.proofs.queue.Queue.shut_by.Goals as goal

pub invariant_of-seat : goal.invariant_of-seat
invariant_of-seat g c = seat_shut c.self.inside.table.shared.key c.seat.invariant c.self.invariant (seat_is c.seat.view_is) c.self.view_is c.requires.object c.shut.ensures.same c.shut.new.token.me _ (c.shut.ensures.told c.seat.inside.name (token_names c.seat.invariant.token)) c.requires.idle

pub returns-clause-state : goal.returns-clause-state
returns-clause-state g c = state_shut c.self.inside.table.shared.key c.seat.invariant c.self.invariant (seat_is c.seat.view_is) c.self.view_is c.requires.object c.shut.ensures.same c.shut.new.token.me _ (c.shut.ensures.told c.seat.inside.name (token_names c.seat.invariant.token))

pub returns-clause-left : goal.returns-clause-left
returns-clause-left g c = drawn_shut c.self.inside.table.shared.key c.seat.invariant c.self.invariant (seat_is c.seat.view_is) c.self.view_is c.requires.object c.shut.ensures.same c.shut.new.token.me _ (c.shut.ensures.told c.seat.inside.name (token_names c.seat.invariant.token))

pub returns-clause-call : goal.returns-clause-call
returns-clause-call g c = shuts_as c.self.inside.table.shared.key c.seat.invariant c.self.invariant (seat_is c.seat.view_is) c.self.view_is c.requires.object c.shut.ensures.same c.shut.new.token.me _ (c.shut.ensures.told c.seat.inside.name (token_names c.seat.invariant.token))

pub shut-requires : goal.shut-requires
shut-requires g c = record { table = search rules; seat = search rules; phase = (ap (λ m. m.0.phase) (idle_token c.seat.invariant (seat_is c.seat.view_is) c.requires.idle).me_is) }

pub returns-clause-noted : goal.returns-clause-noted
returns-clause-noted g c = noted_shut c.self.inside.table.shared.key c.seat.invariant c.self.invariant (seat_is c.seat.view_is) c.self.view_is c.requires.object c.shut.ensures.same c.shut.new.token.me _ (c.shut.ensures.told c.seat.inside.name (token_names c.seat.invariant.token)) ∙ noted_is c.seat.view_is
