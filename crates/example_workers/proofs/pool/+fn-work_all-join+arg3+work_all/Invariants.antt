use Rattle.std.proofs.Common.{vec_len}
use Rattle.example_workers.proofs.pool.+fn-work_all-join+arg3+work_all.Given as goal

abbrev pub decreases-join+arg3 : goal.decreases-join+arg3
decreases-join+arg3 g l = vec_len l.seats

abbrev pub decreases-work_all : goal.decreases-work_all
decreases-work_all g l = vec_len l.seats
