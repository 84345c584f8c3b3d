use Rattle.fak_queue.proofs.sleeper_seat.SleeperSeat.look.Given as goal

-- the step of this seat on this queue
abbrev pub ghosts-look : goal.ghosts-look
ghosts-look g a = record { seats = a.words.now.key.seats; role = a.role; number = a.word }
