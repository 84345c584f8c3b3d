-- What calls do to a file table with one seat.
use Rattle.std.specs.Prelude.{ℕ, ◌≡◌, List, slice_get, slice_set, Option, Some}
use Rattle.fak_model.specs.declared.file.FileEntry.{FileEntry}
use Rattle.fak_model.specs.declared.file.FileMark.{FileMark}
use Rattle.fak_files.specs.Calls.{FileSeatInfo, entries_after}
use Rattle.fak_files.specs.Versions.{entry_of}
use Rattle.fak_run.specs.Files.{FileChange}
use Rattle.fak_run.specs.Only.{IsOnly}

abbrev pub IsOnlyFiles : FileSeatInfo → Type 0
IsOnlyFiles seat = IsOnly (λ (m : FileMark). m.seat) seat.seat

-- the entries, if there are this many
abbrev pub entries_now : ℕ → FileSeatInfo → List FileEntry
entries_now count seat = entries_after seat.seat.seen 0 count

-- nothing is set
pub record KeepsFiles (old new : FileSeatInfo) : Type 0 where
  pub only : IsOnlyFiles new
  pub each : (i : ℕ) → entry_of new.seat.seen i ≡ entry_of old.seat.seen i
  pub entries : (count : ℕ) → entries_now count new ≡ entries_now count old

-- entry i becomes e
pub record PutsEntry (i : ℕ) (e : FileEntry) (old new : FileSeatInfo) : Type 0 where
  pub only : IsOnlyFiles new
  pub entries : (count : ℕ) → entries_now count new ≡ slice_set (entries_now count old) i e

-- entry i becomes the entry i of the copy
pub record StoresEntry (copy : List FileEntry) (i : ℕ) (old new : FileSeatInfo) : Type 0 where
  pub e : FileEntry
  pub in_copy : slice_get copy i ≡ Some e
  pub puts : PutsEntry i e old new

-- the entries, this many, are those of the change, and this entry is the one that the change names
pub record ChangesFiles (count : ℕ) (entry : Option ℕ) (change : FileChange) (new : FileSeatInfo) : Type 0 where
  pub only : IsOnlyFiles new
  pub entry_is : entry ≡ change.entry
  pub entries : entries_now count new ≡ change.entries
