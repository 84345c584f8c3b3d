use Rattle.atomic_table.specs.Table.{rest}
use Rattle.fak_queue.proofs.Common.{rules, ◌≡◌, ap, sym, ◌∙◌, [], ◌∷◌, Some, QueueHolder}
use Rattle.fak_queue.proofs.Turning.{took}
use Rattle.fak_queue.proofs.BundleTurns.{says_mid_out, takes_it}
use Rattle.fak_queue.proofs.bursts.turns.take.Goals as goal

pub exchange-taken-requires : goal.exchange-taken-requires
exchange-taken-requires g c = let s = c.requires.slot in (search rules, (Some s.0, s.1 ∙ ap (λ l. (c.args.place.cell, Some s.0) ∷ l) (sym (ap rest s.1))))

pub free_burst-requires-clause-token : goal.free_burst-requires-clause-token
free_burst-requires-clause-token g c = record { table = search rules; place = c.requires.token.place; name = search rules; phase = (let s = c.requires.slot in says_mid_out c.args.words.now.table_id.slots c.args.words.now.key.seats c.args.name c.args.place.ticket c.args.place.cell s.0 c.args.token.now.me c.exchange-taken.new.seat.me c.exchange-taken.new.seat.me s.1 c.exchange-taken.ensures.3 c.requires.token.phase) }

pub free_burst-requires-clause-slot : goal.free_burst-requires-clause-slot
free_burst-requires-clause-slot g c = (rest c.args.token.now.me.1, ap (λ (y : QueueHolder _). y.1) c.exchange-taken.ensures.3)

pub returns-clause-item : goal.returns-clause-item
returns-clause-item g c =
    let s = c.requires.slot in
    let same : Some s.0 ≡ Some c.in-Some.item = took c.args.token.now.me.1 _ _ _ _ _ _ s.1 c.exchange-taken.ensures.2 ∙ c.in-Some.is in
    s.1 ∙ ap (λ o. (c.args.place.cell, o) ∷ []) same

pub returns-clause-told : goal.returns-clause-told
returns-clause-told g c = record { same = search rules; told = let s = c.requires.slot in takes_it c.args.words.now.table_id.slots c.args.words.now.key.seats c.args.name c.args.place.ticket c.args.place.cell s.0 c.args.token.now.me c.exchange-taken.new.seat.me c.free_burst.new.token.me s.1 c.exchange-taken.ensures.3 c.requires.token.phase c.free_burst.ensures.told }
