use Rattle.fak_model.proofs.Common.{subst, sym, AreCounts}
use Rattle.fak_model.proofs.CheckerCounts.{counts_below, counts_other}
use Rattle.fak_model.proofs.checker.judge.counts_after.Goals as goal

pub counted_with-after-requires : goal.counted_with-after-requires
counted_with-after-requires c = counts_below c.args.past.now c.args.counts _ c.requires.counts c.requires.few

pub returns-in_default : goal.returns-in_default
returns-in_default c = subst (AreCounts _) (sym c.counted_with-after.ensures) (counts_other c.args.past.now c.args.m.now c.args.counts c.requires.counts c.in_default.not-Got)
