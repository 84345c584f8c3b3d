use Rattle.fak_queue.proofs.Common.{rules}
use Rattle.fak_queue.proofs.words.read_lower.Goals as goal

pub count_of-requires : goal.count_of-requires
count_of-requires c = search rules
