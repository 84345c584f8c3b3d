use Rattle.fak_model.proofs.Common.{queue_rules}
use Rattle.fak_model.proofs.Resting.{no_words, rest_named}
use Rattle.fak_model.proofs.laws.queue.a_seat_without_a_call_keeps_a_queue_history.Goals as goal

pub returns-clause-free : goal.returns-clause-free
returns-clause-free g c = λ size seats seat h. no_words (queue_rules size) seats seat h

pub returns-clause-rest : goal.returns-clause-rest
returns-clause-rest g c = λ size seats h. rest_named (queue_rules size) seats h
