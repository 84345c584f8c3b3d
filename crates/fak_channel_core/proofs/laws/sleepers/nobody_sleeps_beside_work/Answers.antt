use Rattle.fak_channel_core.specs.SleeperSchedule.{sleeper_reached}
use Rattle.fak_channel_core.proofs.SleeperReached.{kept_reached, receiver_waits, sender_waits}
use Rattle.fak_channel_core.proofs.laws.sleepers.nobody_sleeps_beside_work.Goals as goal

pub returns : goal.returns
returns g c = record {
  receiver = λ n size e schedule z rests sleeps. receiver_waits n size (sleeper_reached n size schedule) (kept_reached n size schedule z) rests e sleeps;
  sender = λ n size e schedule z rests sleeps. sender_waits n size (sleeper_reached n size schedule) (kept_reached n size schedule z) rests e sleeps;
}
