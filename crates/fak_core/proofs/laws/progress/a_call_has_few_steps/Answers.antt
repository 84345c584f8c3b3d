use Rattle.fak_core.proofs.Common.{common_steps, arith, reached}
use Rattle.fak_core.proofs.QueueReached.{kept_reached}
use Rattle.fak_core.proofs.QueueProgress.{unblocked_falls, moves_unblocked, step_counted}
use Rattle.fak_core.proofs.QueueEvents.{none_left, steps_few}
use Rattle.fak_core.proofs.laws.progress.a_call_has_few_steps.Goals as goal

pub returns : goal.returns
returns g c = grind (arith, common_steps, steps_few, none_left, reached, kept_reached, step_counted, moves_unblocked, unblocked_falls)
