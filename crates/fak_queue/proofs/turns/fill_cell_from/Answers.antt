use Rattle.fak_queue.proofs.Common.{rules, sym, ◌∙◌, subst, FillsSlot}
use Rattle.fak_queue.proofs.Turning.{same_item}
use Rattle.fak_queue.proofs.turns.fill_cell_from.Goals as goal

pub returns-clause-told : goal.returns-clause-told
returns-clause-told g c = record { same = search rules; told = λ n one x e. subst (λ y. FillsSlot c.args.words.now.table_id.slots c.args.words.now.key.seats n c.args.place.ticket y c.args.token.now.me c.fill_cell.new.token.me) (same_item (sym c.replace.ensures.value ∙ c.in-TurnIn.is) e) (c.fill_cell.ensures.told n one) }
