use Rattle.fak_queue.proofs.Common.{refl, ◌≡◌, sym, token_names}
use Rattle.fak_channel_core.specs.SleeperSides.{Woken}
use Rattle.fak_model.specs.declared.note.Sign.TheVariants.{GivesUp}
use Rattle.fak_queue.specs.Sleepers.{as_role, duty_as}
use Rattle.fak_queue.proofs.SleeperSeats.{asks, few_names, token_now}
use Rattle.fak_queue.proofs.SleeperSteps.{noted}
use Rattle.fak_queue.proofs.sleeper_seat.SleeperSeat.give_up.Goals as goal

pub give_up-requires-clause-token : goal.give_up-requires-clause-token
give_up-requires-clause-token g c = token_now c.queue.inside.table.shared.key c.parts.invariant c.queue.invariant c.parts.view_is c.self.view_is c.self.invariant c.queue.view_is c.requires.object c.requires.idle c.parts.inside.token refl refl

pub give_up-requires-clause-account : goal.give_up-requires-clause-account
give_up-requires-clause-account g c = asks c.queue.inside.table.shared.key c.parts.invariant c.queue.invariant c.parts.view_is c.self.view_is c.self.invariant c.queue.view_is c.requires.object (λ a. (duty_as c.args.role a).stage ≡ Woken) c.requires.woken

pub give_up-requires-clause-name : goal.give_up-requires-clause-name
give_up-requires-clause-name g c = (token_names c.parts.invariant.token, few_names c.parts.invariant)

pub give_up-requires-clause-size : goal.give_up-requires-clause-size
give_up-requires-clause-size g c = (sym c.queue.invariant.slots, c.queue.invariant.few_cells)

pub invariant_of-parts : goal.invariant_of-parts
invariant_of-parts g c = (noted c.queue.inside.table.shared.key c.parts.invariant c.queue.invariant c.parts.view_is c.self.view_is c.self.invariant c.queue.view_is c.requires.object c.requires.idle c.give_up.ensures.same c.give_up.new.token.me (as_role c.args.role GivesUp) (c.give_up.ensures.told c.parts.inside.name (token_names c.parts.invariant.token))).0

pub invariant_of-self : goal.invariant_of-self
invariant_of-self g c = (noted c.queue.inside.table.shared.key c.parts.invariant c.queue.invariant c.parts.view_is c.self.view_is c.self.invariant c.queue.view_is c.requires.object c.requires.idle c.give_up.ensures.same c.give_up.new.token.me (as_role c.args.role GivesUp) (c.give_up.ensures.told c.parts.inside.name (token_names c.parts.invariant.token))).1

pub returns : goal.returns
returns g c = (noted c.queue.inside.table.shared.key c.parts.invariant c.queue.invariant c.parts.view_is c.self.view_is c.self.invariant c.queue.view_is c.requires.object c.requires.idle c.give_up.ensures.same c.give_up.new.token.me (as_role c.args.role GivesUp) (c.give_up.ensures.told c.parts.inside.name (token_names c.parts.invariant.token))).2
