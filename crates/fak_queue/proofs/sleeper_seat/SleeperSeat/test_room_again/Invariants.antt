use Rattle.fak_queue.specs.declared.role.Role.TheVariants.{Sender}
use Rattle.fak_queue.proofs.sleeper_seat.SleeperSeat.test_room_again.Given as goal

-- the step of this seat on this queue
abbrev pub ghosts-test_room_again : goal.ghosts-test_room_again
ghosts-test_room_again g a = record { seats = a.words.now.key.seats; role = Sender; number = 0 }
