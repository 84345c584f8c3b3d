use Rattle.fak_queue.proofs.Common.{refl, ◌≡◌, true, sym, token_names}
use Rattle.fak_channel_core.specs.SleeperSides.{relies_on_bit}
use Rattle.fak_queue.specs.Sleepers.{duty_as}
use Rattle.fak_queue.proofs.SleeperSeats.{asks, few_names, token_now}
use Rattle.fak_queue.proofs.SleeperSteps.{took}
use Rattle.fak_queue.proofs.sleeper_seat.SleeperSeat.take_back.Goals as goal

pub take_back-requires-clause-token : goal.take_back-requires-clause-token
take_back-requires-clause-token g c = token_now c.queue.inside.table.shared.key c.parts.invariant c.queue.invariant c.parts.view_is c.self.view_is c.self.invariant c.queue.view_is c.requires.object c.requires.idle c.parts.inside.token refl refl

pub take_back-requires-clause-account : goal.take_back-requires-clause-account
take_back-requires-clause-account g c = asks c.queue.inside.table.shared.key c.parts.invariant c.queue.invariant c.parts.view_is c.self.view_is c.self.invariant c.queue.view_is c.requires.object (λ a. relies_on_bit (duty_as c.args.role a).stage ≡ true) c.requires.relies

pub take_back-requires-clause-name : goal.take_back-requires-clause-name
take_back-requires-clause-name g c = (token_names c.parts.invariant.token, few_names c.parts.invariant)

pub take_back-requires-clause-size : goal.take_back-requires-clause-size
take_back-requires-clause-size g c = (sym c.queue.invariant.slots, c.queue.invariant.few_cells)

pub invariant_of-parts : goal.invariant_of-parts
invariant_of-parts g c = (took c.queue.inside.table.shared.key c.parts.invariant c.queue.invariant c.parts.view_is c.self.view_is c.self.invariant c.queue.view_is c.requires.object c.requires.idle c.take_back.ensures.same c.take_back.new.token.me c.args.role c.take_back.result (c.take_back.ensures.told c.parts.inside.name (token_names c.parts.invariant.token))).0

pub invariant_of-self : goal.invariant_of-self
invariant_of-self g c = (took c.queue.inside.table.shared.key c.parts.invariant c.queue.invariant c.parts.view_is c.self.view_is c.self.invariant c.queue.view_is c.requires.object c.requires.idle c.take_back.ensures.same c.take_back.new.token.me c.args.role c.take_back.result (c.take_back.ensures.told c.parts.inside.name (token_names c.parts.invariant.token))).1

pub returns : goal.returns
returns g c = (took c.queue.inside.table.shared.key c.parts.invariant c.queue.invariant c.parts.view_is c.self.view_is c.self.invariant c.queue.view_is c.requires.object c.requires.idle c.take_back.ensures.same c.take_back.new.token.me c.args.role c.take_back.result (c.take_back.ensures.told c.parts.inside.name (token_names c.parts.invariant.token))).2
