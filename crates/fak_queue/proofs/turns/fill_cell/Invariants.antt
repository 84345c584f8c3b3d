use Rattle.std.specs.Prelude.{None}
use Rattle.fak_queue.proofs.turns.fill_cell.Given as goal

-- the steps of this call on this queue
abbrev pub ghosts-set_full : goal.ghosts-set_full
ghosts-set_full g a = record { seats = a.words.now.key.seats; item = None }

abbrev pub ghosts-end_in : goal.ghosts-end_in
ghosts-end_in g a = record { seats = a.words.now.key.seats; item = None }
