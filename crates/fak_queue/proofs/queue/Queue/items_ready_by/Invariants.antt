use Rattle.std.specs.Prelude.{None}
use Rattle.fak_queue.proofs.queue.Queue.items_ready_by.Given as goal

-- the step of this call on this queue
abbrev pub ghosts-observe_low : goal.ghosts-observe_low
ghosts-observe_low g a = record { seats = a.words.now.key.seats; item = None }
