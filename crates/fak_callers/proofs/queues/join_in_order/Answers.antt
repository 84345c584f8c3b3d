use Rattle.fak_callers.proofs.queues.join_in_order.Goals as goal

pub returns : goal.returns
returns c p q now later of_q is inserted deleted = c.a_queue_keeps_the_order_of_its_calls.ensures _ _ c.join.ensures.joined.lawful p q of_q inserted now later is deleted
