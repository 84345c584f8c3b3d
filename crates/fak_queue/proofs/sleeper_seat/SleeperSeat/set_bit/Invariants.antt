use Rattle.fak_queue.proofs.sleeper_seat.SleeperSeat.set_bit.Given as goal

-- the step of this seat on this queue
abbrev pub ghosts-set_bit : goal.ghosts-set_bit
ghosts-set_bit g a = record { seats = a.words.now.key.seats; role = a.role; number = 0 }
