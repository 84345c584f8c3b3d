use Rattle.fak_queue.proofs.Common.{refl}
use Rattle.fak_queue.proofs.Turning.{looks_out}
use Rattle.fak_queue.proofs.turns.finds_item.Goals as goal

pub returns : goal.returns
returns g c = record { same = c.turn_out.ensures.same; told = λ n one. looks_out c.args.words.now.table_id.slots c.args.words.now.key.seats n c.args.place.ticket c.args.token.now.me c.turn_out.new.token.me one c.requires.free c.args.place.few_tickets _ _ c.requires.place.round_is (c.turn_out.ensures.told n one) _ refl }
