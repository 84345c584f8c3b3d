use Rattle.fak_queue.proofs.Common.{refl, sym, token_names}
use Rattle.fak_queue.proofs.SleeperSeats.{token_now}
use Rattle.fak_queue.proofs.SleeperSteps.{looked}
use Rattle.fak_queue.proofs.sleeper_seat.SleeperSeat.look.Goals as goal

pub look-requires-clause-token : goal.look-requires-clause-token
look-requires-clause-token g c = token_now c.queue.inside.table.shared.key c.parts.invariant c.queue.invariant c.parts.view_is c.self.view_is c.self.invariant c.queue.view_is c.requires.object c.requires.idle c.parts.inside.token refl refl

pub look-requires-clause-size : goal.look-requires-clause-size
look-requires-clause-size g c = (sym c.queue.invariant.slots, c.queue.invariant.few_cells)

pub invariant_of-parts : goal.invariant_of-parts
invariant_of-parts g c = (looked c.queue.inside.table.shared.key c.parts.invariant c.queue.invariant c.parts.view_is c.self.view_is c.self.invariant c.queue.view_is c.requires.object c.requires.idle c.look.ensures.same c.look.new.token.me c.args.role c.args.word c.look.result (c.look.ensures.told c.parts.inside.name (token_names c.parts.invariant.token))).0

pub invariant_of-self : goal.invariant_of-self
invariant_of-self g c = (looked c.queue.inside.table.shared.key c.parts.invariant c.queue.invariant c.parts.view_is c.self.view_is c.self.invariant c.queue.view_is c.requires.object c.requires.idle c.look.ensures.same c.look.new.token.me c.args.role c.args.word c.look.result (c.look.ensures.told c.parts.inside.name (token_names c.parts.invariant.token))).1

pub returns : goal.returns
returns g c = (looked c.queue.inside.table.shared.key c.parts.invariant c.queue.invariant c.parts.view_is c.self.view_is c.self.invariant c.queue.view_is c.requires.object c.requires.idle c.look.ensures.same c.look.new.token.me c.args.role c.args.word c.look.result (c.look.ensures.told c.parts.inside.name (token_names c.parts.invariant.token))).2
