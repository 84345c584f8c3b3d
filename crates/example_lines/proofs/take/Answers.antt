use Rattle.fak_queue.proofs.Sums.{deleted_at_last}
use Rattle.example_lines.specs.Lines.{one, bytes}
use Rattle.example_lines.proofs.take.Goals as goal

pub returns-in-Ok-clause-lines : goal.returns-in-Ok-clause-lines
returns-in-Ok-clause-lines g c = deleted_at_last one c.in-Ok.ensures.call

pub returns-in-Ok-clause-bytes : goal.returns-in-Ok-clause-bytes
returns-in-Ok-clause-bytes g c = deleted_at_last bytes c.in-Ok.ensures.call
