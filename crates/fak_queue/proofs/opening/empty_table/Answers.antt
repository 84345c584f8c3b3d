use Rattle.fak_queue.proofs.Common.{rules}
use Rattle.fak_queue.proofs.Openings.{opens_queue}
use Rattle.fak_queue.proofs.opening.empty_table.Goals as goal

pub vacant-requires : goal.vacant-requires
vacant-requires g c = opens_queue c.args.key.now _ (search rules) c.requires
