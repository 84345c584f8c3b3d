use Rattle.fak_queue.proofs.Sums.{deleted, refused}
use Rattle.example_frames.specs.Frames.{is_number}
use Rattle.example_frames.proofs.free_list.take.Goals as goal

pub returns-in-Ok-clause-adds : goal.returns-in-Ok-clause-adds
returns-in-Ok-clause-adds g c n = deleted (is_number n) c.in-Ok.ensures.call

pub returns-in-Err-clause-adds : goal.returns-in-Err-clause-adds
returns-in-Err-clause-adds g c n = refused (is_number n) c.args.free.now.queue.now.size c.in-Err.field-0 c.in-Err.ensures.call
