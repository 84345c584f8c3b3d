use Rattle.fak_queue.proofs.sleeper_seat.SleeperSeat.clear.Given as goal

-- the step of this seat on this queue
abbrev pub ghosts-clear : goal.ghosts-clear
ghosts-clear g a = record { seats = a.words.now.key.seats; role = a.role; number = a.other }
