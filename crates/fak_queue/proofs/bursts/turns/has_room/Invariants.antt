use Rattle.fak_queue.proofs.bursts.turns.has_room.Given as goal

-- the step of this name on this queue
abbrev pub ghosts-turn_burst : goal.ghosts-turn_burst
ghosts-turn_burst g a = record { seats = a.words.now.key.seats; name = a._name }
