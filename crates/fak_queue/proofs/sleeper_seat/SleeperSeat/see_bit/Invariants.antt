use Rattle.fak_queue.proofs.sleeper_seat.SleeperSeat.see_bit.Given as goal

-- the step of this seat on this queue
abbrev pub ghosts-see_bit : goal.ghosts-see_bit
ghosts-see_bit g a = record { seats = a.words.now.key.seats; role = a.role; number = 0 }
