use Rattle.fak_queue.proofs.Common.{refl, token_names}
use Rattle.fak_queue.proofs.SleeperSeats.{token_now}
use Rattle.fak_queue.proofs.SleeperSteps.{checked}
use Rattle.fak_queue.proofs.sleeper_seat.SleeperSeat.check_drained.Goals as goal

pub check_drained-requires : goal.check_drained-requires
check_drained-requires g c = token_now c.queue.inside.table.shared.key c.parts.invariant c.queue.invariant c.parts.view_is c.self.view_is c.self.invariant c.queue.view_is c.requires.object c.requires.idle c.parts.inside.token refl refl

pub invariant_of-parts : goal.invariant_of-parts
invariant_of-parts g c = (checked c.queue.inside.table.shared.key c.parts.invariant c.queue.invariant c.parts.view_is c.self.view_is c.self.invariant c.queue.view_is c.requires.object c.requires.idle c.check_drained.ensures.same c.check_drained.new.token.me c.check_drained.result (c.check_drained.ensures.told c.parts.inside.name (token_names c.parts.invariant.token))).0

pub invariant_of-self : goal.invariant_of-self
invariant_of-self g c = (checked c.queue.inside.table.shared.key c.parts.invariant c.queue.invariant c.parts.view_is c.self.view_is c.self.invariant c.queue.view_is c.requires.object c.requires.idle c.check_drained.ensures.same c.check_drained.new.token.me c.check_drained.result (c.check_drained.ensures.told c.parts.inside.name (token_names c.parts.invariant.token))).1

pub returns : goal.returns
returns g c = (checked c.queue.inside.table.shared.key c.parts.invariant c.queue.invariant c.parts.view_is c.self.view_is c.self.invariant c.queue.view_is c.requires.object c.requires.idle c.check_drained.ensures.same c.check_drained.new.token.me c.check_drained.result (c.check_drained.ensures.told c.parts.inside.name (token_names c.parts.invariant.token))).2
