use Rattle.fak_channel_core.proofs.SleeperProgress.{sender_wakes, receiver_wakes}
use Rattle.fak_channel_core.proofs.laws.sleepers.a_woken_end_goes_on.Goals as goal

pub returns : goal.returns
returns g c = record {
  sender = λ n size e s l idle asleep clear. sender_wakes n size e s l idle asleep clear;
  receiver = λ n size e s l idle asleep clear. receiver_wakes n size e s l idle asleep clear;
}
