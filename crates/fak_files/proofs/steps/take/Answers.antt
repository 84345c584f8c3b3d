use Rattle.fak_files.proofs.Common.{arith}
use Rattle.fak_files.proofs.StepKinds.{takes_allowed}
use Rattle.fak_files.proofs.steps.take.Goals as goal

pub fetch_sub-requires : goal.fetch_sub-requires
fetch_sub-requires g c = (c.requires.token.table_is.0, omega (arith, c.requires.token.table_is.1), takes_allowed _ _ c.requires.token.table_is.2 _ _ _ _ _ _ c.requires.amount.0 c.requires.token.seat)
