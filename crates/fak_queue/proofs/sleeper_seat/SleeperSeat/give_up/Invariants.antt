use Rattle.fak_queue.proofs.sleeper_seat.SleeperSeat.give_up.Given as goal

-- the step of this seat on this queue
abbrev pub ghosts-give_up : goal.ghosts-give_up
ghosts-give_up g a = record { seats = a.words.now.key.seats; role = a.role; number = 0 }
