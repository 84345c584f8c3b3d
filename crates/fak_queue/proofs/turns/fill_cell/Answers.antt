use Rattle.fak_queue.proofs.Common.{rules, ap, ◌∙◌, rest, QueueHolder}
use Rattle.fak_queue.proofs.Turning.{fills_slot}
use Rattle.fak_queue.proofs.turns.fill_cell.Goals as goal

pub set_full-requires : goal.set_full-requires
set_full-requires g c = record { table = search rules; place = c.requires.token.place; seat = search rules; phase = (c.args.item, ap (λ (y : QueueHolder _). y.0.phase) c.exchange.ensures.3 ∙ c.requires.token.phase, (rest c.args.token.now.me.1, ap (λ (y : QueueHolder _). y.1) c.exchange.ensures.3)) }

pub returns : goal.returns
returns g c = record { same = search rules; told = λ n one. fills_slot c.args.words.now.table_id.slots c.args.words.now.key.seats n c.args.place.ticket c.args.place.cell c.args.item c.args.token.now.me c.exchange.new.seat.me c.set_full.new.token.me c.end_in.new.token.me one c.requires.slot c.exchange.ensures.3 c.set_full.ensures.told c.end_in.ensures.told }
