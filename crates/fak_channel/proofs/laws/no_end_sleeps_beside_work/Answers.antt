use Rattle.fak_channel.proofs.Waiting.{all_rest, receiver_sleeps_as, sender_sleeps_as}
use Rattle.fak_channel.proofs.laws.no_end_sleeps_beside_work.Goals as goal

pub returns-clause-receiver : goal.returns-clause-receiver
returns-clause-receiver g c = λ channel key s shown ends all n below sleeps is.
    c.no_seat_sleeps_beside_work.ensures.receiver key s shown (λ k. (ends k).queue) (all_rest channel key s ends all) n below (receiver_sleeps_as channel key s (ends n) (all n below).stands sleeps is)

pub returns-clause-sender : goal.returns-clause-sender
returns-clause-sender g c = λ channel key s shown ends all n below sleeps x is.
    c.no_seat_sleeps_beside_work.ensures.sender key s shown (λ k. (ends k).queue) (all_rest channel key s ends all) n below (sender_sleeps_as channel key s (ends n) (all n below).stands sleeps x is)
