use Rattle.fak_places.proofs.OnlyKeys.{of_histories, of_schedules, of_scripts}
use Rattle.fak_places.proofs.laws.an_ignored_key_has_no_effect.Goals as goal

pub returns-clause-schedules : goal.returns-clause-schedules
returns-clause-schedules c = of_schedules

pub returns-clause-histories : goal.returns-clause-histories
returns-clause-histories c = of_histories

pub returns-clause-scripts : goal.returns-clause-scripts
returns-clause-scripts c = of_scripts
