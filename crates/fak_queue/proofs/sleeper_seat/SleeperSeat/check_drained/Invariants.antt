use Rattle.fak_queue.specs.declared.role.Role.TheVariants.{Sender}
use Rattle.fak_queue.proofs.sleeper_seat.SleeperSeat.check_drained.Given as goal

-- the step of this seat on this queue
abbrev pub ghosts-check_drained : goal.ghosts-check_drained
ghosts-check_drained g a = record { seats = a.words.now.key.seats; role = Sender; number = 0 }
