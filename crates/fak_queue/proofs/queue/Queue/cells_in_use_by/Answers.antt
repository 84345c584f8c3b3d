use Rattle.fak_queue.proofs.Common.{◌∙◌, token_phase}
use Rattle.fak_queue.proofs.Observations.{seat_observed, state_observed, drawn_observed, makes_observed, told_observed}
use Rattle.fak_queue.proofs.SeatParts.{noted_is, seat_is}
use Rattle.fak_queue.proofs.PartSteps.{noted_kept}
use Rattle.fak_queue.proofs.queue.Queue.cells_in_use_by.Goals as goal

pub invariant_of-seat : goal.invariant_of-seat
invariant_of-seat g c = seat_observed c.self.inside.table.shared.key c.seat.invariant c.self.invariant (seat_is c.seat.view_is) c.self.view_is c.requires c.observe_up.ensures.same c.observe_up.new.token.me (c.observe_up.ensures.told c.seat.inside.phase (token_phase c.seat.invariant.token))

pub returns-clause-state : goal.returns-clause-state
returns-clause-state g c = state_observed c.self.inside.table.shared.key c.seat.invariant c.self.invariant (seat_is c.seat.view_is) c.self.view_is c.requires c.observe_up.ensures.same c.observe_up.new.token.me (c.observe_up.ensures.told c.seat.inside.phase (token_phase c.seat.invariant.token))

pub returns-clause-left : goal.returns-clause-left
returns-clause-left g c = drawn_observed c.self.inside.table.shared.key c.seat.invariant c.self.invariant (seat_is c.seat.view_is) c.self.view_is c.requires c.observe_up.ensures.same c.observe_up.new.token.me (c.observe_up.ensures.told c.seat.inside.phase (token_phase c.seat.invariant.token))

pub returns-clause-makes : goal.returns-clause-makes
returns-clause-makes g c = makes_observed c.self.inside.table.shared.key c.seat.invariant c.self.invariant (seat_is c.seat.view_is) c.self.view_is c.requires c.observe_up.ensures.same c.observe_up.new.token.me (c.observe_up.ensures.told c.seat.inside.phase (token_phase c.seat.invariant.token))

pub returns-clause-count : goal.returns-clause-count
returns-clause-count g c = (told_observed c.self.inside.table.shared.key c.seat.invariant c.self.invariant (seat_is c.seat.view_is) c.self.view_is c.requires c.observe_up.ensures.same c.observe_up.new.token.me (c.observe_up.ensures.told c.seat.inside.phase (token_phase c.seat.invariant.token))).0

pub returns-clause-shut : goal.returns-clause-shut
returns-clause-shut g c = (told_observed c.self.inside.table.shared.key c.seat.invariant c.self.invariant (seat_is c.seat.view_is) c.self.view_is c.requires c.observe_up.ensures.same c.observe_up.new.token.me (c.observe_up.ensures.told c.seat.inside.phase (token_phase c.seat.invariant.token))).1

pub returns-clause-noted : goal.returns-clause-noted
returns-clause-noted g c = noted_kept (c.observe_up.ensures.told c.seat.inside.phase (token_phase c.seat.invariant.token)) ∙ noted_is c.seat.view_is
