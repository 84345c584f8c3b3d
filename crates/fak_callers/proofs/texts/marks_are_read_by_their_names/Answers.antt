use Rattle.fak_model.specs.declared.queue.Kind.TheVariants as kinds
use Rattle.fak_callers.proofs.texts.marks_are_read_by_their_names.Goals as goal

pub returns-clause-put : goal.returns-clause-put
returns-clause-put c = c.each_mark_is_read_by_its_name.ensures (kinds.Put 7) 7

pub returns-clause-late : goal.returns-clause-late
returns-clause-late c = c.each_mark_is_read_by_its_name.ensures kinds.LateIn 0
