use Rattle.fak_channel_core.specs.SleeperSchedule.{sleeper_reached}
use Rattle.fak_channel_core.proofs.SleeperReached.{kept_reached}
use Rattle.fak_channel_core.proofs.SleeperProgress.{some_seat_moves, comes_on_if_busy, rests_left, rests_done}
use Rattle.fak_channel_core.proofs.laws.sleepers.a_channel_never_locks_up.Goals as goal

pub returns : goal.returns
returns g c = record {
  call = λ n size e schedule z ne. some_seat_moves n size (sleeper_reached n size schedule) e z (kept_reached n size schedule z) ne;
  end = λ n size e schedule z l idle busy. comes_on_if_busy n size (sleeper_reached n size schedule) (kept_reached n size schedule z) e l idle busy;
  rests = λ n e s r. rests_left n e s r;
  done = λ n e s idle z. rests_done n e s idle z;
}
