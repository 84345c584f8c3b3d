use Rattle.fak_queue.proofs.SleeperLaws.{receiver_waits_running, sender_waits_running}
use Rattle.fak_queue.proofs.laws.sleepers.nobody_sleeps_beside_work_in_a_running_queue.Goals as goal

pub returns-clause-receiver : goal.returns-clause-receiver
returns-clause-receiver g c = λ key s shown n all sleeps. receiver_waits_running key s shown n all sleeps

pub returns-clause-sender : goal.returns-clause-sender
returns-clause-sender g c = λ key s shown n all sleeps. sender_waits_running key s shown n all sleeps
