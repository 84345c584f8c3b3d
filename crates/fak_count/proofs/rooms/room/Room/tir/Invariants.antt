use Rattle.fak_count.proofs.rooms.room.Room.tir.Given as goal

-- each step is on this room
abbrev pub ghosts-test : goal.ghosts-test
ghosts-test a = record { key = a.words.now.key; amount = a.d }

abbrev pub ghosts-add : goal.ghosts-add
ghosts-add a = record { key = a.words.now.key; amount = a.d }

abbrev pub ghosts-withdraw : goal.ghosts-withdraw
ghosts-withdraw a = record { key = a.words.now.key; amount = a.d }
