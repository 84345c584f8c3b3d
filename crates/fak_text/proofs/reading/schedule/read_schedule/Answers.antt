use Rattle.std.proofs.Common.{rules}
use Rattle.fak_text.specs.ScheduleText.{schedule_of, schedule_in, IsScheduleInRange}
use Rattle.fak_text.proofs.ReadRange.{IfOk-from_Gives}
use Rattle.fak_text.proofs.ScheduleRange.{schedule_is_in_range}
use Rattle.fak_text.proofs.reading.schedule.read_schedule.Goals as goal

pub returns-clause-range : goal.returns-clause-range
returns-clause-range c =
    let bytes = c.args.bytes.now in
    IfOk-from_Gives schedule_of (λ s. IsScheduleInRange s) c.schedule_from.result (schedule_in bytes) (search rules) (schedule_is_in_range bytes)
