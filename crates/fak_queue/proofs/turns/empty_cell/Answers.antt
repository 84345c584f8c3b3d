use Rattle.fak_queue.proofs.Common.{rules, ◌≡◌, ap, sym, ◌∙◌, [], ◌∷◌, Some, rest}
use Rattle.fak_queue.proofs.Turning.{takes_slot, took}
use Rattle.fak_queue.proofs.turns.empty_cell.Goals as goal

pub exchange-taken-requires : goal.exchange-taken-requires
exchange-taken-requires g c = let s = c.requires.slot in (search rules, (Some s.0, s.1 ∙ ap (λ l. (c.args.place.cell, Some s.0) ∷ l) (sym (ap rest s.1))))

pub returns : goal.returns
returns g c = record {
  same = search rules;
  told = λ n one.
      let s = c.requires.slot in
      let same : Some s.0 ≡ Some c.in-Some.item = took c.args.token.now.me.1 _ _ _ _ _ _ s.1 c.exchange-taken.ensures.2 ∙ c.in-Some.is in
      let slot = s.1 ∙ ap (λ o. (c.args.place.cell, o) ∷ []) same in
      takes_slot c.args.words.now.table_id.slots c.args.words.now.key.seats n c.args.place.ticket c.args.place.cell c.in-Some.item c.args.token.now.me c.exchange-taken.new.seat.me c.set_free.new.token.me c.end_out.new.token.me one slot c.exchange-taken.ensures.3 c.set_free.ensures.told c.end_out.ensures.told;
}
