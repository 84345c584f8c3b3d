use Rattle.std.specs.Prelude.{None}
use Rattle.fak_queue.proofs.resting.rest.Given as goal

-- the load is made on this queue
abbrev pub ghosts-settle : goal.ghosts-settle
ghosts-settle g a = record { seats = a.words.now.key.seats; item = None }
