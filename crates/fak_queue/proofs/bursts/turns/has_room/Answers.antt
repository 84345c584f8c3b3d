use Rattle.fak_queue.proofs.Common.{refl}
use Rattle.fak_queue.proofs.BundleTurns.{looks_in_burst}
use Rattle.fak_queue.proofs.bursts.turns.has_room.Goals as goal

pub turn_burst-requires : goal.turn_burst-requires
turn_burst-requires g c = record { table = c.requires.table; place = c.requires.place; name = c.requires.name; phase = (let s = c.requires.phase.1 in (s.0, s.1, (c.requires.phase.0, s.2))) }

pub returns : goal.returns
returns g c = record { same = c.turn_burst.ensures.same; told = λ x s. looks_in_burst c.args.words.now.table_id.slots c.args.words.now.key.seats c.args.name c.args.place.ticket x c.args.token.now.me c.turn_burst.new.token.me _ c.args.place.cell _ c.requires.place.round_is c.turn_burst.ensures.told s _ refl }
