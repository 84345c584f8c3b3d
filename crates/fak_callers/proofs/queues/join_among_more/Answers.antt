use Rattle.std.proofs.Common.{arith}
use Rattle.fak_callers.proofs.queues.join_among_more.Goals as goal

pub returns-clause-free : goal.returns-clause-free
returns-clause-free c = c.a_seat_without_a_call_keeps_a_queue_history.ensures.free c.args.queue.now.size _ _ _ c.join.ensures.joined.named (omega arith)
