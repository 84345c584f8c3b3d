use Rattle.fak_queue.proofs.sleeper_seat.SleeperSeat.take_back.Given as goal

-- the step of this seat on this queue
abbrev pub ghosts-take_back : goal.ghosts-take_back
ghosts-take_back g a = record { seats = a.words.now.key.seats; role = a.role; number = 0 }
