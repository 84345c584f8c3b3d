use Rattle.fak_files.proofs.Common.{rules, ◌∷◌, [], arith, Take, amount_of}
use Rattle.std.proofs.lemmas.Int.{ints}
use Rattle.fak_files.proofs.Making.{makes_none, makes_one, none_then, misses_test, misses_take}
use Rattle.fak_files.proofs.admission.admit.Goals as goal

pub returns-then-tested-amount-clause-made : goal.returns-then-tested-amount-clause-made
returns-then-tested-amount-clause-made g c =
    let amount = c.requires.amount.0 in
    let less = c.if-tested-amount.true in
    let is = c.count_of.ensures.sum in
    misses_test g.J.Call.key g.J.Call.name _ c.test-tested.result _ c.requires.token.seat (c.test-tested.ensures.told.told.less (omega (arith, amount, less))) (omega (arith, ints, is))

pub returns-then-found-amount-clause-made : goal.returns-then-found-amount-clause-made
returns-then-found-amount-clause-made g c =
    let amount = c.requires.amount.0 in
    let enough = c.if-tested-amount.false in
    let less = c.if-found-amount.true in
    let is = c.count_of-then-found-amount.ensures.sum in
    misses_take g.J.Call.key g.J.Call.name _ c.take-found.result _ c.requires.token.seat (c.test-tested.ensures.told.told.enough (omega (arith, amount, enough))) (c.take-found.ensures.told.told.less (omega (arith, amount, less))) c.withdraw.ensures.told.told (omega (arith, ints, is))

pub returns-clause-made : goal.returns-clause-made
returns-clause-made g c =
    let amount = c.requires.amount.0 in
    let enough = c.if-tested-amount.false in
    let granted = c.if-found-amount.false in
    let test = c.test-tested.ensures.told.told.enough (omega (arith, amount, enough)) in
    let step = c.take-found.ensures.told.told.enough (omega (arith, amount, granted)) in
    let table = g.J.Call.key in
    let name = g.J.Call.name in
    none_then table name (Take (amount_of table.seats g.J.Call.access) ∷ []) (makes_none table name c.requires.token.seat test) (makes_one table name (Take (amount_of table.seats g.J.Call.access)) test.token step)

pub withdraw-requires-clause-amount : goal.withdraw-requires-clause-amount
withdraw-requires-clause-amount g c = search rules
