use Rattle.fak_files.proofs.Common.{rules, arith}
use Rattle.fak_files.proofs.StepKinds.{tests_allowed}
use Rattle.fak_files.proofs.steps.test.Goals as goal

pub load-requires : goal.load-requires
load-requires g c = (c.requires.token.table_is.0, omega (arith, c.requires.token.table_is.1), tests_allowed _ _ c.requires.token.table_is.2 _ _ _ _ _ c.requires.token.seat)

pub returns : goal.returns
returns g c = search rules
