use Rattle.fak_run.proofs.Common.{length, refl, arith, free_entry}
use Rattle.fak_run.proofs.FirstLists.{begun_at, length-begun, number_at, length-numbers, none_asleep, entry_at}
use Rattle.fak_run.proofs.laws.small_steps.the_first_lists_are_known.Goals as goal

pub returns-clause-ready : goal.returns-clause-ready
returns-clause-ready c script i program is = begun_at 0 i i script.start program (omega arith) is

pub returns-clause-processes : goal.returns-clause-processes
returns-clause-processes c script = length-begun 0 script.start

pub returns-clause-free : goal.returns-clause-free
returns-clause-free c script i below = number_at (length script.start) _ i _ refl below

pub returns-clause-slots : goal.returns-clause-slots
returns-clause-slots c script = length-numbers (length script.start) _

pub returns-clause-sleepers : goal.returns-clause-sleepers
returns-clause-sleepers c script n = none_asleep script.semaphores n

pub returns-clause-entries : goal.returns-clause-entries
returns-clause-entries c script i below = entry_at free_entry script.files i below
