use Rattle.fak_text.proofs.Common.{rules}
use Rattle.fak_text.proofs.reading.values.input_in.Goals as goal

pub returns-then-bytes-gt-LARGEST_INPUT-clause-long : goal.returns-then-bytes-gt-LARGEST_INPUT-clause-long
returns-then-bytes-gt-LARGEST_INPUT-clause-long c = search rules
