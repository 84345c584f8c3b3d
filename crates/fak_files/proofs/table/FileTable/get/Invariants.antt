use Rattle.fak_files.proofs.Common.{slice_index}
use Rattle.fak_files.proofs.table.FileTable.get.Given as goal

-- the steps belong to this seat, on this table
abbrev pub ghosts-get_field : goal.ghosts-get_field
ghosts-get_field a = record { key = a.words.now.key; name = slice_index a.token.now.me.0.names 0; access = a._access; entry = a.entry; field = a.field; to = 0 }
