use Rattle.fak_queue.proofs.Common.{refl, ◌≡◌, sym, token_names}
use Rattle.fak_channel_core.specs.SleeperSides.{Awake}
use Rattle.fak_model.specs.declared.note.Sign.TheVariants.{Registers}
use Rattle.fak_queue.specs.Sleepers.{as_role, duty_as}
use Rattle.fak_queue.proofs.SleeperSeats.{asks, few_names, token_now}
use Rattle.fak_queue.proofs.SleeperSteps.{noted}
use Rattle.fak_queue.proofs.sleeper_seat.SleeperSeat.set_bit.Goals as goal

pub set_bit-requires-clause-token : goal.set_bit-requires-clause-token
set_bit-requires-clause-token g c = token_now c.queue.inside.table.shared.key c.parts.invariant c.queue.invariant c.parts.view_is c.self.view_is c.self.invariant c.queue.view_is c.requires.object c.requires.idle c.parts.inside.token refl refl

pub set_bit-requires-clause-account : goal.set_bit-requires-clause-account
set_bit-requires-clause-account g c = asks c.queue.inside.table.shared.key c.parts.invariant c.queue.invariant c.parts.view_is c.self.view_is c.self.invariant c.queue.view_is c.requires.object (λ a. (duty_as c.args.role a).stage ≡ Awake) c.requires.awake

pub set_bit-requires-clause-name : goal.set_bit-requires-clause-name
set_bit-requires-clause-name g c = (token_names c.parts.invariant.token, few_names c.parts.invariant)

pub set_bit-requires-clause-size : goal.set_bit-requires-clause-size
set_bit-requires-clause-size g c = (sym c.queue.invariant.slots, c.queue.invariant.few_cells)

pub invariant_of-parts : goal.invariant_of-parts
invariant_of-parts g c = (noted c.queue.inside.table.shared.key c.parts.invariant c.queue.invariant c.parts.view_is c.self.view_is c.self.invariant c.queue.view_is c.requires.object c.requires.idle c.set_bit.ensures.same c.set_bit.new.token.me (as_role c.args.role Registers) (c.set_bit.ensures.told c.parts.inside.name (token_names c.parts.invariant.token))).0

pub invariant_of-self : goal.invariant_of-self
invariant_of-self g c = (noted c.queue.inside.table.shared.key c.parts.invariant c.queue.invariant c.parts.view_is c.self.view_is c.self.invariant c.queue.view_is c.requires.object c.requires.idle c.set_bit.ensures.same c.set_bit.new.token.me (as_role c.args.role Registers) (c.set_bit.ensures.told c.parts.inside.name (token_names c.parts.invariant.token))).1

pub returns : goal.returns
returns g c = (noted c.queue.inside.table.shared.key c.parts.invariant c.queue.invariant c.parts.view_is c.self.view_is c.self.invariant c.queue.view_is c.requires.object c.requires.idle c.set_bit.ensures.same c.set_bit.new.token.me (as_role c.args.role Registers) (c.set_bit.ensures.told c.parts.inside.name (token_names c.parts.invariant.token))).2
