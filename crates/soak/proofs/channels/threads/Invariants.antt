use Rattle.std.proofs.Common.{vec_len}
use Rattle.soak.proofs.channels.threads.Given as goal

abbrev pub decreases-loop-end : goal.decreases-loop-end
decreases-loop-end l = vec_len l.ends
