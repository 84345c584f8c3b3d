-- What a running file table shows between any two atomic steps, and what a seat learns from each kind of step.
use Rattle.std.specs.Prelude.{ℕ, ◌≡◌, ◌+◌, ◌^◌, ◌<◌, ◌≤◌, List, [], ◌∷◌, length, reverse, slice_index_or, pos, ◌+ℤ◌}
use Rattle.atomic_table.specs.Table.{State, Me}
use Rattle.fak_model.specs.declared.view.View.{View}
use Rattle.fak_model.specs.declared.file.FileField.{FileField}
use Rattle.fak_model.specs.declared.file.FileKind.{FileKind}
use Rattle.fak_model.specs.declared.file.FileKind.TheVariants.{Take, Over, Back, No, Set, Give}
use Rattle.fak_model.specs.declared.file.FileMark.{FileMark}
use Rattle.fak_model.specs.Histories.{words_by}
use Rattle.fak_model.specs.File.{WholeCall, seat_of, kind_of, count, field, file_rules, IsFileHistory}
use Rattle.fak_model.specs.Views.{opened}
use Rattle.fak_model.specs.Shown.{Object, IsShown, Leaves, Hears, TellsNothing}
use Rattle.fak_model.specs.Tokens.{IsSeatToken}
use Rattle.fak_files.specs.declared.phase.Access.{Access}
use Rattle.fak_files.specs.declared.phase.Access.TheVariants.{Write}
use Rattle.fak_files.specs.declared.phase.FilePhase.{FilePhase}
use Rattle.fak_files.specs.declared.phase.FilePhase.TheVariants.{Idle, Taking, Backing, Holding}
use Rattle.fak_files.specs.declared.limits.FileLimits.{FileLimits}
use Rattle.fak_files.specs.Phases.{amount_of, StandsIn}
use Rattle.fak_model.specs.Words.{bias}
use Rattle.fak_files.specs.Words.{count_place, width, word_of}

-- what a seat of a file table knows; a file table has no slots
abbrev pub FileView : Type 0
FileView = View FileMark FilePhase

abbrev pub FileHolder : Type 0
FileHolder = Me (Unit {0}) FileView

abbrev pub limits : ℕ → ℕ → FileLimits
limits entries seats = record { entries = entries; seats = seats }

-- the words show the count and the fields after this history
pub record ShowsHistory (table : FileLimits) (h : List FileMark) (words : List ℕ) : Type 0 where
  pub few_entries : table.entries ≤ 16
  pub few_seats : table.seats ≤ 1024
  pub some_seat : 1 ≤ table.seats
  pub wide : length words ≡ width table.entries
  pub counted : pos (slice_index_or words count_place 0) ≡ pos bias +ℤ count table.seats h
  pub fields : (entry : ℕ) (f : FileField) → entry < table.entries → slice_index_or words (word_of entry f) 0 ≡ field h entry f

-- a file table: its state is its history, newest mark first; each seat is at the phase that its marks show
abbrev pub file_object : FileLimits → Object FileMark FileKind WholeCall FilePhase (List FileMark) (Unit {0})
file_object table = record {
  rules = file_rules table.seats;
  seats = table.seats;
  tickets = 0;
  drawn_of = λ past. 0;
  past_of = λ past. past;
  IsReached = λ past. IsFileHistory table.seats (reverse past);
  StandsAt = λ past name phase. StandsIn table.seats (words_by seat_of kind_of name (reverse past)) phase;
  Encodes = λ past notes words homes. ShowsHistory table (reverse past) words;
}

abbrev pub IsShownFile : FileLimits → State (Unit {0}) FileView → Type 0
IsShownFile table = IsShown (file_object table)

abbrev pub opened_file : FileLimits → FileView
opened_file table = opened Idle table.seats 0

-- ---- what a seat learns from each kind of step

abbrev pub mark : ℕ → FileKind → FileMark
mark name kind = record { seat = name; kind = kind }

-- a step of the seat of this name: the marks that it left, newest first, and the phase that the seat is at now
pub record Steps (table : FileLimits) (name : ℕ) (m : FileHolder) (new : List FileMark) (phase : FilePhase) (tells : List FileMark → Type 0) (after : FileHolder) : Type 0 where
  pub leaves : Leaves (file_object table) m new phase 0 [] tells after
  pub token : IsSeatToken seat_of table.seats name phase 0 after

-- the word that was found is that of the count
abbrev pub CountIs : ℕ → ℕ → List FileMark → Type 0
CountIs k found past = (pos found ≡ pos bias +ℤ count k (reverse past)) × (found < 2 ^ 63)

-- a step that finds enough for the amount, or too little
pub record Decided (table : FileLimits) (name : ℕ) (access : Access) (granted : List FileMark) (refused : List FileMark) (next other : FilePhase) (m : FileHolder) (found : ℕ) (after : FileHolder) : Type 0 where
  pub enough : bias + amount_of table.seats access ≤ found → Steps table name m granted next (CountIs table.seats found) after
  pub less : found < bias + amount_of table.seats access → Steps table name m refused other (CountIs table.seats found) after

abbrev pub Tested : FileLimits → ℕ → Access → FileHolder → ℕ → FileHolder → Type 0
Tested table name access = Decided table name access [] (mark name (No (amount_of table.seats access)) ∷ []) (Taking access) Idle

abbrev pub Took : FileLimits → ℕ → Access → FileHolder → ℕ → FileHolder → Type 0
Took table name access = Decided table name access (mark name (Take (amount_of table.seats access)) ∷ []) (mark name (Over (amount_of table.seats access)) ∷ []) (Holding access) (Backing access)

abbrev pub Withdrew : FileLimits → ℕ → Access → FileHolder → FileHolder → Type 0
Withdrew table name access m after = Steps table name m (mark name (Back (amount_of table.seats access)) ∷ []) Idle TellsNothing after

abbrev pub Gave : FileLimits → ℕ → FileHolder → FileHolder → Type 0
Gave table name m after = Steps table name m (mark name Give ∷ []) Idle TellsNothing after

-- the word that was found is that of a field, and the seat holds the table
pub record FieldIs (table : FileLimits) (name : ℕ) (access : Access) (entry : ℕ) (f : FileField) (found : ℕ) (past : List FileMark) : Type 0 where
  pub found_is : found ≡ field (reverse past) entry f
  pub stands : StandsIn table.seats (words_by seat_of kind_of name (reverse past)) (Holding access)

abbrev pub Got : FileLimits → ℕ → Access → ℕ → FileField → FileHolder → ℕ → FileHolder → Type 0
Got table name access entry f m found after = Steps table name m [] (Holding access) (FieldIs table name access entry f found) after

abbrev pub WasSet : FileLimits → ℕ → ℕ → FileField → ℕ → FileHolder → FileHolder → Type 0
WasSet table name entry f to m after = Steps table name m (mark name (Set entry f to) ∷ []) (Holding Write) TellsNothing after

abbrev pub HeardJoin : FileLimits → FileHolder → FileHolder → Type 0
HeardJoin table m after = Hears (file_object table) m after
