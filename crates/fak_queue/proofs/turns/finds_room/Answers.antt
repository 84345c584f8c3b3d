use Rattle.fak_queue.proofs.Common.{refl}
use Rattle.fak_queue.proofs.Turning.{looks_in}
use Rattle.fak_queue.proofs.turns.finds_room.Goals as goal

pub returns : goal.returns
returns g c = record { same = c.turn_in.ensures.same; told = λ n one x e. looks_in c.args.words.now.table_id.slots c.args.words.now.key.seats n c.args.place.ticket x c.args.token.now.me c.turn_in.new.token.me one c.requires.free c.args.place.few_tickets _ _ c.requires.place.round_is (c.turn_in.ensures.told n one x e) _ refl }
