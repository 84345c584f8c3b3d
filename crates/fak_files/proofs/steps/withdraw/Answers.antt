use Rattle.fak_files.proofs.Common.{arith}
use Rattle.fak_files.proofs.StepKinds.{withdraws_allowed}
use Rattle.fak_files.proofs.steps.withdraw.Goals as goal

pub fetch_add-requires : goal.fetch_add-requires
fetch_add-requires g c = (c.requires.token.table_is.0, omega (arith, c.requires.token.table_is.1), withdraws_allowed _ _ c.requires.token.table_is.2 _ _ _ _ _ _ c.requires.amount.0 c.requires.token.seat)
