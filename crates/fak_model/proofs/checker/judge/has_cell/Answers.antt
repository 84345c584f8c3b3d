use Rattle.fak_model.proofs.Common.{reverse}
use Rattle.fak_model.proofs.CheckerPast.{fill_decided}
use Rattle.fak_model.proofs.checker.judge.has_cell.Goals as goal

pub returns-else-k-size : goal.returns-else-k-size
returns-else-k-size c = fill_decided c.args.size c.in-Fill.k (reverse c.args.past.now) c.args.kind.now _ c.if-k-size.false c.in-Fill.is c.was_taken.ensures
