use Rattle.std.proofs.lemmas.Grind.{common_steps}
use Rattle.std.proofs.Common.{arith}
use Rattle.std.proofs.lemmas.Result.{err_from_is_err_and}
use Rattle.fak_text.proofs.Common.{next_index, mark_from}
use Rattle.fak_text.proofs.Elements.{goes_on, ends, is_done}
use Rattle.fak_text.proofs.reading.history.marks_from.Goals as goal

pub returns-in_err-mark_from : goal.returns-in_err-mark_from
returns-in_err-mark_from c = grind (arith, common_steps, err_from_is_err_and, ends, mark_from, next_index)

pub loop-i-preserved : goal.loop-i-preserved
loop-i-preserved c =
    rw c.in_ok-push.ensures.items (goes_on mark_from next_index c.loop-i.marks.items c.args.values.now c.loop-i.i c.loop-i.i c.index-values-i.result c.in_ok-mark_from.field-0 _ c.loop-i-test.true c.index-values-i.is c.in_ok-mark_from.ensures c.loop-i.invariant)

pub returns : goal.returns
returns c = is_done mark_from next_index c.loop-i.marks.items c.args.values.now c.loop-i.i c.loop-i.i _ c.loop-i-test.false c.loop-i.invariant
