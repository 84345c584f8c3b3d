use Rattle.atomic_table.specs.Table.{rest}
use Rattle.fak_queue.proofs.Common.{rules, ap, QueueHolder}
use Rattle.fak_queue.proofs.BundleTurns.{says_mid_in, fills_it}
use Rattle.fak_queue.proofs.bursts.turns.fill.Goals as goal

pub fill_burst-requires : goal.fill_burst-requires
fill_burst-requires g c = record {
  table = search rules;
  place = c.requires.token.place;
  name = search rules;
  phase = (let s = says_mid_in c.args.words.now.table_id.slots c.args.words.now.key.seats c.args.name c.args.place.ticket c.args.place.cell c.args.item c.args.token.now.me c.exchange.new.seat.me c.exchange.new.seat.me c.requires.slot c.exchange.ensures.3 c.requires.token.phase in
      (s.0, s.1, (c.args.item, s.2, (rest c.args.token.now.me.1, ap (λ (y : QueueHolder _). y.1) c.exchange.ensures.3))));
}

pub returns : goal.returns
returns g c = record { same = search rules; told = fills_it c.args.words.now.table_id.slots c.args.words.now.key.seats c.args.name c.args.place.ticket c.args.place.cell c.args.item c.args.token.now.me c.exchange.new.seat.me c.fill_burst.new.token.me c.requires.slot c.exchange.ensures.3 c.requires.token.phase c.fill_burst.ensures.told }
