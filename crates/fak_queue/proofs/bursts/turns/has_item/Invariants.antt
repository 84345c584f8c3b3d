use Rattle.fak_queue.proofs.bursts.turns.has_item.Given as goal

-- the step of this name on this queue
abbrev pub ghosts-turn_out_burst : goal.ghosts-turn_out_burst
ghosts-turn_out_burst g a = record { seats = a.words.now.key.seats; name = a._name }
