use Rattle.fak_channel_core.proofs.SleeperProgress.{sender_bit, receiver_bit, sender_word, receiver_word}
use Rattle.fak_channel_core.proofs.laws.sleepers.a_note_of_a_bit_is_true.Goals as goal

pub returns : goal.returns
returns g c = record {
  sender = λ n size e k b s other. sender_bit n size e s k b other;
  receiver = λ n size e k b s other. receiver_bit n size e s k b other;
  senders = λ n size e w found s other. sender_word n size e s w found other;
  receivers = λ n size e w found s other. receiver_word n size e s w found other;
}
