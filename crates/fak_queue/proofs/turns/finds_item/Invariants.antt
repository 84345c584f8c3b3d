use Rattle.std.specs.Prelude.{None}
use Rattle.fak_queue.proofs.turns.finds_item.Given as goal

-- the steps of this call on this queue
abbrev pub ghosts-turn_out : goal.ghosts-turn_out
ghosts-turn_out g a = record { seats = a.words.now.key.seats; item = None }
