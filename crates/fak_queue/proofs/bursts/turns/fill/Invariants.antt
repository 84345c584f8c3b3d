use Rattle.fak_queue.proofs.bursts.turns.fill.Given as goal

-- the step of this name on this queue
abbrev pub ghosts-fill_burst : goal.ghosts-fill_burst
ghosts-fill_burst g a = record { seats = a.words.now.key.seats; name = a._name }
