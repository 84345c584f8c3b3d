use Rattle.fak_files.proofs.Common.{slice_index, Inode}
use Rattle.fak_files.proofs.table.FileTable.end.Given as goal

-- the step belongs to this seat, on this table
abbrev pub ghosts-give : goal.ghosts-give
ghosts-give a = record { key = a.words.now.key; name = slice_index a.token.now.me.0.names 0; access = a._access; entry = 0; field = Inode; to = 0 }
