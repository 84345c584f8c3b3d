use Rattle.fak_count.proofs.rooms.room.Room.join.Given as goal

-- the load is on this room
abbrev pub ghosts-hear : goal.ghosts-hear
ghosts-hear a = record { key = a.words.now.key; amount = 0 }
