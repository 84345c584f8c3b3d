use Rattle.std.specs.Prelude.{None}
use Rattle.fak_queue.proofs.turns.empty_cell.Given as goal

-- the steps of this call on this queue
abbrev pub ghosts-set_free : goal.ghosts-set_free
ghosts-set_free g a = record { seats = a.words.now.key.seats; item = None }

abbrev pub ghosts-end_out : goal.ghosts-end_out
ghosts-end_out g a = record { seats = a.words.now.key.seats; item = None }
