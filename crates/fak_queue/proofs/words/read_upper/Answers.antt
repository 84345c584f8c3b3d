use Rattle.fak_queue.proofs.Common.{rules}
use Rattle.fak_queue.proofs.words.read_upper.Goals as goal

pub returns-then-found-ge-SHUT : goal.returns-then-found-ge-SHUT
returns-then-found-ge-SHUT c = search rules
