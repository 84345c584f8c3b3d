use Rattle.std.proofs.Common.{rules}
use Rattle.fak_queue.proofs.Sums.{inserted_at_last}
use Rattle.example_lines.specs.Lines.{one, bytes}
use Rattle.example_lines.proofs.put.Goals as goal

pub returns-clause-lines : goal.returns-clause-lines
returns-clause-lines g c = search (rules, inserted_at_last one)

pub returns-clause-bytes : goal.returns-clause-bytes
returns-clause-bytes g c = search (rules, inserted_at_last bytes)
