use Rattle.fak_core.proofs.Common.{reached}
use Rattle.fak_core.proofs.QueueReached.{kept_reached}
use Rattle.fak_core.specs.QueueSchedule.{Advances, stepped}
use Rattle.fak_core.proofs.QueueSteps.{kept_event}
use Rattle.fak_core.proofs.QueueProgress.{unblocked_moves, moves_unblocked, unblocked_stays}
use Rattle.fak_core.proofs.laws.progress.a_turn_that_has_come_stays.Goals as goal

pub returns : goal.returns
returns g c = λ size schedule s t z n on.
    let st = reached size schedule in
    let K = kept_reached size schedule z in
    unblocked_moves size (stepped size st t) s z (kept_event size st (Advances t) z K) (unblocked_stays size st s t n (moves_unblocked size st s z K on))
