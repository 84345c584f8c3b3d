use Rattle.std.proofs.Common.{rules}
use Rattle.fak_text.specs.ScheduleText.{steps_act}
use Rattle.fak_places.proofs.event.wrong_steps.Goals as goal

pub returns-else-size-eq2 : goal.returns-else-size-eq2
unfolding steps_act
returns-else-size-eq2 c = search rules
