use Rattle.fak_queue.proofs.Common.{refl}
use Rattle.fak_queue.proofs.BundleTurns.{looks_out_burst}
use Rattle.fak_queue.proofs.bursts.turns.has_item.Goals as goal

pub turn_out_burst-requires : goal.turn_out_burst-requires
turn_out_burst-requires g c = record { table = c.requires.table; place = c.requires.place; name = c.requires.name; phase = c.requires.phase }

pub returns : goal.returns
returns g c = record { same = c.turn_out_burst.ensures.same; told = looks_out_burst c.args.words.now.table_id.slots c.args.words.now.key.seats c.args.name c.args.place.ticket c.args.token.now.me c.turn_out_burst.new.token.me _ _ c.requires.place.round_is c.turn_out_burst.ensures.told c.requires.phase _ refl }
