use Rattle.std.specs.Prelude.{None}
use Rattle.fak_queue.proofs.turns.finds_room.Given as goal

-- the steps of this call on this queue
abbrev pub ghosts-turn_in : goal.ghosts-turn_in
ghosts-turn_in g a = record { seats = a.words.now.key.seats; item = None }
