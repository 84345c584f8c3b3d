use Rattle.std.specs.Prelude.{None}
use Rattle.fak_queue.proofs.queue.Queue.shut_by.Given as goal

-- the step of this call on this queue
abbrev pub ghosts-shut : goal.ghosts-shut
ghosts-shut g a = record { seats = a.words.now.key.seats; item = None }
