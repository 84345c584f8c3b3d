use Rattle.fak_count.proofs.rooms.room.Room.release.Given as goal

-- the step is on this room
abbrev pub ghosts-release : goal.ghosts-release
ghosts-release a = record { key = a.words.now.key; amount = a.d }
