-- What the report of a run promises, for any number of processors.
use Rattle.std.specs.Prelude.{◌≡◌, length}
use Rattle.fak_text.specs.Script.{ScriptOf}
use Rattle.fak_run.specs.Report.{ReportOf, IsSortedByName}
use Rattle.fak_run.specs.Promises.{Promised, spawned_names}
use Rattle.fak_run.specs.Reported.{FilesReplay}

pub record RunReports (script : ScriptOf) (report : ReportOf) : Type 0 where
  pub version : report.version ≡ script.version
  pub bound : report.bound ≡ script.births
  pub sorted : IsSortedByName report.rows
  pub births : report.births ≡ length (spawned_names script report.rows)
  pub rows : Promised script report.rows
  pub files : FilesReplay script.files report
