use Rattle.std.specs.Prelude.{None}
use Rattle.fak_queue.proofs.queue.Queue.join.Given as goal

-- the load is made on this queue
abbrev pub ghosts-hear : goal.ghosts-hear
ghosts-hear g a = record { seats = a.words.now.key.seats; item = None }
