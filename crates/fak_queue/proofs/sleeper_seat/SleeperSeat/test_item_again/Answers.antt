use Rattle.fak_queue.proofs.Common.{refl, ◌≡◌, token_names}
use Rattle.fak_channel_core.specs.SleeperSides.{Registered}
use Rattle.fak_queue.proofs.SleeperSeats.{asks, token_now}
use Rattle.fak_queue.proofs.SleeperSteps.{tested_item}
use Rattle.fak_queue.proofs.sleeper_seat.SleeperSeat.test_item_again.Goals as goal

pub test_item_again-requires-clause-token : goal.test_item_again-requires-clause-token
test_item_again-requires-clause-token g c = token_now c.queue.inside.table.shared.key c.parts.invariant c.queue.invariant c.parts.view_is c.self.view_is c.self.invariant c.queue.view_is c.requires.object c.requires.idle c.parts.inside.token refl refl

pub test_item_again-requires-clause-account : goal.test_item_again-requires-clause-account
test_item_again-requires-clause-account g c = asks c.queue.inside.table.shared.key c.parts.invariant c.queue.invariant c.parts.view_is c.self.view_is c.self.invariant c.queue.view_is c.requires.object (λ a. a.receiver.stage ≡ Registered) c.requires.registered

pub invariant_of-parts : goal.invariant_of-parts
invariant_of-parts g c = (tested_item c.queue.inside.table.shared.key c.parts.invariant c.queue.invariant c.parts.view_is c.self.view_is c.self.invariant c.queue.view_is c.requires.object c.requires.idle c.test_item_again.ensures.same c.test_item_again.new.token.me c.test_item_again.result (c.test_item_again.ensures.told c.parts.inside.name (token_names c.parts.invariant.token))).0

pub invariant_of-self : goal.invariant_of-self
invariant_of-self g c = (tested_item c.queue.inside.table.shared.key c.parts.invariant c.queue.invariant c.parts.view_is c.self.view_is c.self.invariant c.queue.view_is c.requires.object c.requires.idle c.test_item_again.ensures.same c.test_item_again.new.token.me c.test_item_again.result (c.test_item_again.ensures.told c.parts.inside.name (token_names c.parts.invariant.token))).1

pub returns : goal.returns
returns g c = (tested_item c.queue.inside.table.shared.key c.parts.invariant c.queue.invariant c.parts.view_is c.self.view_is c.self.invariant c.queue.view_is c.requires.object c.requires.idle c.test_item_again.ensures.same c.test_item_again.new.token.me c.test_item_again.result (c.test_item_again.ensures.told c.parts.inside.name (token_names c.parts.invariant.token))).2
