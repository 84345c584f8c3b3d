use Rattle.fak_queue.proofs.SeatsSeen.{receiver_waits_seen, sender_waits_seen}
use Rattle.fak_queue.proofs.laws.sleepers.no_seat_sleeps_beside_work.Goals as goal

pub returns-clause-receiver : goal.returns-clause-receiver
returns-clause-receiver g c = λ key s shown seats all n low sleeps. receiver_waits_seen key s seats all shown n low sleeps

pub returns-clause-sender : goal.returns-clause-sender
returns-clause-sender g c = λ key s shown seats all n low sleeps. sender_waits_seen key s seats all shown n low sleeps
