-- What the tokens of a file table's seats know, and what their steps do together.
use Rattle.std.specs.Prelude.{ℕ, ◌+◌, ◌≡◌, ◌⊎◌, ℤ, List, [], ◌∷◌, length, map, reverse}
use Rattle.fak_model.specs.declared.file.FileKind.{FileKind}
use Rattle.fak_model.specs.declared.file.FileKind.TheVariants.{Over, Back, No}
use Rattle.fak_model.specs.declared.file.FileMark.{FileMark}
use Rattle.fak_model.specs.Histories.{words_by}
use Rattle.fak_model.specs.File.{seat_of, kind_of, count, file_rules, IsFileHistory}
use Rattle.fak_model.specs.Resting.{AreBetweenCalls}
use Rattle.fak_model.specs.Calls.{ObjectId, seat_info, Appends, before_mark}
use Rattle.fak_model.specs.Seats.{marks_of}
use Rattle.fak_model.specs.Tokens.{IsSeatToken}
use Rattle.fak_files.specs.declared.phase.FilePhase.{FilePhase}
use Rattle.fak_files.specs.declared.phase.FilePhase.TheVariants.{Idle}
use Rattle.fak_files.specs.declared.phase.Hold.{Hold}
use Rattle.fak_files.specs.Phases.{phase_of, StandsIn}
use Rattle.fak_files.specs.Shown.{FileHolder, mark}
use Rattle.fak_files.specs.Calls.{FileSeatInfo, file_seat, holds_of}

-- a seat of this object, with this many holds left of its stint
abbrev pub seat_now : ObjectId → ℕ → ℕ → Hold → FileHolder → FileSeatInfo
seat_now object name left hold me = file_seat (seat_info object name (left + holds_of name (reverse me.0.seen)) (reverse me.0.seen)) hold

-- what the fields of a seat always satisfy
pub record IsFileSeat (name seats : ℕ) (hold : Hold) (me : FileHolder) : Type 0 where
  pub token : IsSeatToken seat_of seats name (phase_of hold) 0 me
  pub lawful : IsFileHistory seats (reverse me.0.seen)
  pub stands : StandsIn seats (words_by seat_of kind_of name (reverse me.0.seen)) (phase_of hold)

-- what these names have seen together is lawful, and they are between two calls
pub record IsSettled (seats : ℕ) (names : List ℕ) (seen : List FileMark) : Type 0 where
  pub lawful : IsFileHistory seats seen
  pub rest : AreBetweenCalls (file_rules seats) names seen

-- a seat's token took steps that left marks of these kinds, and is now at this phase
pub record Makes (seats name : ℕ) (kinds : List FileKind) (phase : FilePhase) (m after : FileHolder) : Type 0 where
  pub appends : (object : ObjectId) (stint : ℕ) → object.seats ≡ seats → Appends (file_rules seats) (map (mark name) kinds) (seat_info object name stint (reverse m.0.seen)) (seat_info object name stint (reverse after.0.seen))
  pub token : IsSeatToken seat_of seats name phase 0 after

-- the history before the first mark of these steps
abbrev pub before_steps : ℕ → FileHolder → FileHolder → List FileMark
before_steps name m after = before_mark seat_of name (length (marks_of seat_of name (reverse m.0.seen)) + 0) (reverse after.0.seen)

-- a claim of this amount was refused at its test, or withdrawn
pub record Misses (seats name n : ℕ) (m after : FileHolder) (answer : ℤ) : Type 0 where
  pub makes : Makes seats name (No n ∷ []) Idle m after ⊎ Makes seats name (Over n ∷ Back n ∷ []) Idle m after
  pub answers : answer ≡ count seats (before_steps name m after)
