use Rattle.fak_run.proofs.SchedulerNames.{reported_once, reports_alike}
use Rattle.fak_run.proofs.laws.the_list_scheduler_reports_each_name_once.Goals as goal

pub returns : goal.returns
returns c = record { once = reported_once; one = reports_alike }
