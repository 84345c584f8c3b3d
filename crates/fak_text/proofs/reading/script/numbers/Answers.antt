use Rattle.std.proofs.lemmas.Result.{err_from_is_err_and}
use Rattle.fak_text.proofs.Common.{next_index, number_from, rules}
use Rattle.fak_text.proofs.Elements.{goes_on, ends, is_done}
use Rattle.fak_text.proofs.reading.script.numbers.Goals as goal

pub returns-in_err-number_below : goal.returns-in_err-number_below
returns-in_err-number_below c =
    let p = err_from_is_err_and c.from_residual.result c.from_residual.ensures.1 in
    rw (p.1, p.2) (ends (number_from c.args.field c.args.bound) next_index c.in_err-number_below.field-0.0 c.loop-i.numbers.items c.args.values.now c.loop-i.i c.loop-i.i c.index-values-i.result _ c.loop-i-test.true c.index-values-i.is (search rules) c.loop-i.invariant)

pub loop-i-preserved : goal.loop-i-preserved
loop-i-preserved c =
    rw c.in_ok-push.ensures.items (goes_on (number_from c.args.field c.args.bound) next_index c.loop-i.numbers.items c.args.values.now c.loop-i.i c.loop-i.i c.index-values-i.result c.in_ok-number_below.field-0 _ c.loop-i-test.true c.index-values-i.is (search rules) c.loop-i.invariant)

pub returns : goal.returns
returns c = is_done (number_from c.args.field c.args.bound) next_index c.loop-i.numbers.items c.args.values.now c.loop-i.i c.loop-i.i _ c.loop-i-test.false c.loop-i.invariant
