use Rattle.std.proofs.Common.{ℕ, List, [], Some, None, ap, slice_index_or}
use Rattle.fak_core.specs.declared.line.CoreMove.TheVariants as moves
use Rattle.fak_core.specs.declared.line.LineMark.TheVariants as marks
use Rattle.fak_model.specs.declared.queue.Kind.TheVariants as kinds
use Rattle.fak_model.specs.declared.room.RoomKind.TheVariants as room_kinds
use Rattle.fak_callers.proofs.texts.lines_of_many_numbers_are_known.Goals as goal

pub returns-clause-below : goal.returns-clause-below
returns-clause-below c = c.each_line_has_its_text.ensures.negative 63 11 moves.BackLow (Some (marks.Queue kinds.BackOut))

pub returns-clause-largest : goal.returns-clause-largest
returns-clause-largest c = c.each_line_has_its_text.ensures.found 0 18446744073709551615 moves.LoadItem None

pub returns-clause-over : goal.returns-clause-over
returns-clause-over c = ap (λ (texts : List (List ℕ)). slice_index_or texts 1 []) (c.each_mark_has_its_text.ensures.amounts 1024)

pub returns-clause-end_out : goal.returns-clause-end_out
returns-clause-end_out c = ap (λ (names : List (List ℕ)). slice_index_or names 9 []) c.each_step_has_its_name.ensures.tickets

pub returns-clause-amount : goal.returns-clause-amount
returns-clause-amount c = c.each_line_has_its_text.ensures.found 7 1024 moves.Release (Some (marks.Room (room_kinds.Release 1024)))
