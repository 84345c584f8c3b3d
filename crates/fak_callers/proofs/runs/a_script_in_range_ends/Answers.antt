use Rattle.std.proofs.Common.{ap}
use Rattle.fak_run.specs.Examples.{ping_pong, ping_pong_left}
use Rattle.fak_run.specs.ListScheduler.{Lists}
use Rattle.fak_callers.proofs.runs.a_script_in_range_ends.Goals as goal

pub returns-clause-ends : goal.returns-clause-ends
returns-clause-ends c script range = c.the_list_scheduler_ends_every_script.ensures script range.quantum.0

pub returns-clause-counts : goal.returns-clause-counts
returns-clause-counts c lists ends =
    ap (λ (left : Lists). left.counts) (c.the_list_scheduler_ends_in_one_way.ensures ping_pong lists ping_pong_left ends c.the_list_scheduler_ends_known_scripts.ensures.wakes)
