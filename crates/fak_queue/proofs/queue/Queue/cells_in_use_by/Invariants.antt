use Rattle.std.specs.Prelude.{None}
use Rattle.fak_queue.proofs.queue.Queue.cells_in_use_by.Given as goal

-- the step of this call on this queue
abbrev pub ghosts-observe_up : goal.ghosts-observe_up
ghosts-observe_up g a = record { seats = a.words.now.key.seats; item = None }
