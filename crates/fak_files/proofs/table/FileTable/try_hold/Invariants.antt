use Rattle.fak_files.proofs.Common.{slice_index, Inode}
use Rattle.fak_files.proofs.table.FileTable.try_hold.Given as goal

abbrev pub ghosts-admit : goal.ghosts-admit
ghosts-admit a = record { key = a.words.now.key; name = slice_index a.token.now.me.0.names 0; access = a.access; entry = 0; field = Inode; to = 0 }
