-- What a seat of a file table shows of a line that came about in one hold.
use Rattle.std.specs.Prelude.{◌≡◌, ℕ, List, [], ◌∷◌, ◌++◌, map, slice_get, Option, Some, None}
use Rattle.fak_model.specs.declared.file.FileEntry.{FileEntry}
use Rattle.fak_model.specs.declared.file.FileField.TheVariants.{Inode, Uses}
use Rattle.fak_model.specs.declared.file.FileKind.{FileKind}
use Rattle.fak_model.specs.declared.file.FileMark.{FileMark}
use Rattle.fak_model.specs.Histories.{AreNamed}
use Rattle.fak_model.specs.File.{Setting, seat_of, IsFileHistory, file_rules}
use Rattle.fak_model.specs.Calls.{SeatInfo}
use Rattle.fak_model.specs.Seats.{Begins, marks_of}
use Rattle.fak_files.specs.Shown.{mark}
use Rattle.fak_files.specs.Versions.{prefix_through_take, marks_since_take}
use Rattle.fak_text.specs.Journal.{NoteOf}
use Rattle.fak_run.specs.Holds.{FileHold, IsFitHold, AreHolds, held_kinds, kinds_of_hold, reads_of, hold_line}

-- the seat has left these kinds of marks since
pub record Left (kinds : List FileKind) (old new : SeatInfo FileMark) : Type 0 where
  pub same_seat : new ≡ record old { seen = new.seen }
  pub begins : Begins old.seen new.seen
  pub mine : marks_of seat_of old.name new.seen ≡ marks_of seat_of old.name old.seen ++ map (mark old.name) kinds

-- the seat has just taken its hold: the entries that it reads are those of what it has seen
pub record HasJustTaken (s : SeatInfo FileMark) : Type 0 where
  pub through : prefix_through_take s.name s.seen ≡ s.seen
  pub since : marks_since_take s.name s.seen ≡ []

-- the settings of both fields of the entry at this place
abbrev pub sets_at : ℕ → Option FileEntry → List Setting
sets_at i None = []
sets_at i (Some e) = record { entry = i; field = Inode; to = e.inode } ∷ record { entry = i; field = Uses; to = e.uses } ∷ []

-- the settings of both fields of the named entry, if any, to the values of the copy
abbrev pub sets_of : List FileEntry → Option ℕ → List Setting
sets_of copy None = []
sets_of copy (Some i) = sets_at i (slice_get copy i)

-- in one hold, after any number of refused tries, the seat has produced this line
pub record HasMade (n : ℕ) (line : NoteOf) (old new : SeatInfo FileMark) : Type 0 where
  pub hold : FileHold
  pub line_is : hold.line ≡ line
  pub fit : IsFitHold old.object.seats hold
  pub same_seat : new ≡ record old { seen = new.seen }
  pub kinds : held_kinds old.name new.seen ≡ held_kinds old.name old.seen ++ kinds_of_hold hold
  pub reads : reads_of n old.name new.seen ≡ reads_of n old.name old.seen ++ hold.read ∷ []
  pub lawful : IsFileHistory old.object.seats new.seen
  pub named : AreNamed (file_rules old.object.seats) old.object.seats new.seen

-- these are the lines of a seat, in order, for a table of n entries
pub record AreLines (n : ℕ) (lines : List NoteOf) (s : SeatInfo FileMark) : Type 0 where
  pub holds : List FileHold
  pub lines_are : map hold_line holds ≡ lines
  pub are : AreHolds n s.object.seats s.name holds s.seen
  pub lawful : IsFileHistory s.object.seats s.seen
  pub named : AreNamed (file_rules s.object.seats) s.object.seats s.seen
