use Rattle.fak_queue.proofs.bursts.turns.take.Given as goal

-- the step of this name on this queue
abbrev pub ghosts-free_burst : goal.ghosts-free_burst
ghosts-free_burst g a = record { seats = a.words.now.key.seats; name = a._name }
