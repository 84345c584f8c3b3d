use Rattle.fak_text.proofs.Common.{rules}
use Rattle.fak_text.specs.ScheduleText.{event_from}
use Rattle.fak_text.proofs.reading.schedule.event_from.Goals as goal

pub returns-in_err-op : goal.returns-in_err-op
unfolding event_from
returns-in_err-op c = search rules
