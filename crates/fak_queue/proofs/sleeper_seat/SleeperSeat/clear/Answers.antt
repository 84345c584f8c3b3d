use Rattle.fak_queue.proofs.Common.{refl, sym, token_names}
use Rattle.fak_queue.proofs.SleeperSeats.{token_now}
use Rattle.fak_queue.proofs.SleeperSteps.{cleared}
use Rattle.fak_queue.proofs.sleeper_seat.SleeperSeat.clear.Goals as goal

pub clear-requires-clause-token : goal.clear-requires-clause-token
clear-requires-clause-token g c = token_now c.queue.inside.table.shared.key c.parts.invariant c.queue.invariant c.parts.view_is c.self.view_is c.self.invariant c.queue.view_is c.requires.object c.requires.idle c.parts.inside.token refl refl

pub clear-requires-clause-size : goal.clear-requires-clause-size
clear-requires-clause-size g c = (sym c.queue.invariant.slots, c.queue.invariant.few_cells)

pub invariant_of-parts : goal.invariant_of-parts
invariant_of-parts g c = (cleared c.queue.inside.table.shared.key c.parts.invariant c.queue.invariant c.parts.view_is c.self.view_is c.self.invariant c.queue.view_is c.requires.object c.requires.idle c.clear.ensures.same c.clear.new.token.me c.args.role c.args.other c.clear.result (c.clear.ensures.told c.parts.inside.name (token_names c.parts.invariant.token))).0

pub invariant_of-self : goal.invariant_of-self
invariant_of-self g c = (cleared c.queue.inside.table.shared.key c.parts.invariant c.queue.invariant c.parts.view_is c.self.view_is c.self.invariant c.queue.view_is c.requires.object c.requires.idle c.clear.ensures.same c.clear.new.token.me c.args.role c.args.other c.clear.result (c.clear.ensures.told c.parts.inside.name (token_names c.parts.invariant.token))).1

pub returns : goal.returns
returns g c = (cleared c.queue.inside.table.shared.key c.parts.invariant c.queue.invariant c.parts.view_is c.self.view_is c.self.invariant c.queue.view_is c.requires.object c.requires.idle c.clear.ensures.same c.clear.new.token.me c.args.role c.args.other c.clear.result (c.clear.ensures.told c.parts.inside.name (token_names c.parts.invariant.token))).2
