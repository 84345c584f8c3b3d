use Rattle.std.proofs.Common.{◌<◌, length, arith}
use Rattle.fak_text.specs.Script.{down, open_file, say, shutdown, spawn}
use Rattle.fak_callers.proofs.scripts.steps_name_what_a_script_may_have.Goals as goal

pub returns-clause-down : goal.returns-clause-down
returns-clause-down c script program position n range is =
    let low : n < length script.semaphores = c.each_step_of_a_script_is_in_range.ensures script program position (down n) range is in
    omega (arith, low, range.semaphore_count)

pub returns-clause-spawn : goal.returns-clause-spawn
returns-clause-spawn c script program position n range is =
    let low : n < length script.programs = c.each_step_of_a_script_is_in_range.ensures script program position (spawn n) range is in
    omega (arith, low, range.program_count)

pub returns-clause-open : goal.returns-clause-open
returns-clause-open c script program position n range is = c.each_step_of_a_script_is_in_range.ensures script program position (open_file n) range is

pub returns-clause-say : goal.returns-clause-say
returns-clause-say c script program position text range is = (c.each_step_of_a_script_is_in_range.ensures script program position (say text) range is).0

pub returns-clause-shutdown : goal.returns-clause-shutdown
returns-clause-shutdown c script program position range is = c.each_step_of_a_script_is_in_range.ensures script program position shutdown range is
