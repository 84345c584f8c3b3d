use Rattle.fak_queue.proofs.Common.{refl, ◌≡◌, true, sym, token_names}
use Rattle.fak_channel_core.specs.SleeperSides.{relies_on_bit}
use Rattle.fak_queue.specs.Sleepers.{duty_as}
use Rattle.fak_queue.proofs.SleeperSeats.{asks, few_names, token_now}
use Rattle.fak_queue.proofs.SleeperSteps.{saw}
use Rattle.fak_queue.proofs.sleeper_seat.SleeperSeat.see_bit.Goals as goal

pub see_bit-requires-clause-token : goal.see_bit-requires-clause-token
see_bit-requires-clause-token g c = token_now c.queue.inside.table.shared.key c.parts.invariant c.queue.invariant c.parts.view_is c.self.view_is c.self.invariant c.queue.view_is c.requires.object c.requires.idle c.parts.inside.token refl refl

pub see_bit-requires-clause-account : goal.see_bit-requires-clause-account
see_bit-requires-clause-account g c = asks c.queue.inside.table.shared.key c.parts.invariant c.queue.invariant c.parts.view_is c.self.view_is c.self.invariant c.queue.view_is c.requires.object (λ a. relies_on_bit (duty_as c.args.role a).stage ≡ true) c.requires.relies

pub see_bit-requires-clause-name : goal.see_bit-requires-clause-name
see_bit-requires-clause-name g c = (token_names c.parts.invariant.token, few_names c.parts.invariant)

pub see_bit-requires-clause-size : goal.see_bit-requires-clause-size
see_bit-requires-clause-size g c = (sym c.queue.invariant.slots, c.queue.invariant.few_cells)

pub invariant_of-parts : goal.invariant_of-parts
invariant_of-parts g c = (saw c.queue.inside.table.shared.key c.parts.invariant c.queue.invariant c.parts.view_is c.self.view_is c.self.invariant c.queue.view_is c.requires.object c.requires.idle c.see_bit.ensures.same c.see_bit.new.token.me c.args.role c.see_bit.result (c.see_bit.ensures.told c.parts.inside.name (token_names c.parts.invariant.token))).0

pub invariant_of-self : goal.invariant_of-self
invariant_of-self g c = (saw c.queue.inside.table.shared.key c.parts.invariant c.queue.invariant c.parts.view_is c.self.view_is c.self.invariant c.queue.view_is c.requires.object c.requires.idle c.see_bit.ensures.same c.see_bit.new.token.me c.args.role c.see_bit.result (c.see_bit.ensures.told c.parts.inside.name (token_names c.parts.invariant.token))).1

pub returns : goal.returns
returns g c = (saw c.queue.inside.table.shared.key c.parts.invariant c.queue.invariant c.parts.view_is c.self.view_is c.self.invariant c.queue.view_is c.requires.object c.requires.idle c.see_bit.ensures.same c.see_bit.new.token.me c.args.role c.see_bit.result (c.see_bit.ensures.told c.parts.inside.name (token_names c.parts.invariant.token))).2
