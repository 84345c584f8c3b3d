use Rattle.std.proofs.Common.{[]}
use Rattle.fak_run.specs.Ledger.{joined}
use Rattle.fak_callers.proofs.runs.three_ledgers_balance.Goals as goal

pub returns : goal.returns
returns c = λ script a b d first second third. c.ledgers_balance_together.ensures script 16 [] [] [] (joined a b) d (c.ledgers_balance_together.ensures script 16 [] [] [] a b first second) third
