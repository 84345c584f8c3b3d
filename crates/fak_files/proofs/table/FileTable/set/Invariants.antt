use Rattle.fak_files.proofs.Common.{slice_index, Write}
use Rattle.fak_files.proofs.table.FileTable.set.Given as goal

-- the step belongs to this seat, on this table
abbrev pub ghosts-set_field : goal.ghosts-set_field
ghosts-set_field a = record { key = a.words.now.key; name = slice_index a.token.now.me.0.names 0; access = Write; entry = a.entry; field = a.field; to = a.to }
