use Rattle.fak_files.proofs.Common.{Inode, Read}
use Rattle.fak_files.proofs.table.FileTable.join.Given as goal

-- the load is on this table
abbrev pub ghosts-hear : goal.ghosts-hear
ghosts-hear a = record { key = a.words.now.key; name = 0; access = Read; entry = 0; field = Inode; to = 0 }
