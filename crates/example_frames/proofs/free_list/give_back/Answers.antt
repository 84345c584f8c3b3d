use Rattle.fak_queue.proofs.Sums.{inserted}
use Rattle.example_frames.specs.Frames.{is_number}
use Rattle.example_frames.proofs.free_list.give_back.Goals as goal

pub returns-in-Ok-clause-adds : goal.returns-in-Ok-clause-adds
returns-in-Ok-clause-adds g c n = inserted (is_number n) c.in-Ok.ensures.call
