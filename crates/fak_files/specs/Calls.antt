-- What callers see of a file table, of its seats and of what is left of it, and what calls do to them. Histories have
-- the oldest mark first.
use Rattle.std.specs.Prelude.{ℕ, zero, suc, ◌≡◌, ◌<◌, ◌⊎◌, ℤ, List, [], ◌∷◌, ◌++◌, map}
use Rattle.std.specs.List.{All, sum_by, flat_map}
use Rattle.fak_model.specs.declared.file.FileEntry.{FileEntry}
use Rattle.fak_model.specs.declared.file.FileField.{FileField}
use Rattle.fak_model.specs.declared.file.FileKind.{FileKind}
use Rattle.fak_model.specs.declared.file.FileKind.TheVariants.{Take, Over, Back, No, Set, Give}
use Rattle.fak_model.specs.declared.file.FileMark.{FileMark}
use Rattle.fak_model.specs.Histories.{words_by, Owes}
use Rattle.fak_model.specs.File.{WholeCall, Refused, Withdrawn, kinds_of_call, seat_of, kind_of, amount_held, count, file_rules}
use Rattle.fak_model.specs.Calls.{ObjectId, SeatInfo, Appends, before_appended}
use Rattle.fak_model.specs.Seats.{marks_of}
use Rattle.fak_files.specs.declared.phase.Access.{Access}
use Rattle.fak_files.specs.declared.phase.Hold.{Hold}
use Rattle.fak_files.specs.declared.phase.Hold.TheVariants.{Nothing, Reading, Writing}
use Rattle.fak_files.specs.declared.fault.FileFault.{FileFault}
use Rattle.fak_files.specs.declared.fault.FileFault.TheVariants.{Worn, Busy}
use Rattle.fak_files.specs.Phases.{amount_of, hold_for}
use Rattle.fak_files.specs.Shown.{mark}
use Rattle.fak_files.specs.Versions.{entry_of, prefix_through_take, marks_since_take}

-- ---- what callers see

-- a file table: which object it is, and its number of entries
pub record FileTableInfo : Type 0 where
  pub object : ObjectId
  pub entries : ℕ

abbrev pub table_info : ObjectId → ℕ → FileTableInfo
table_info object entries = record { object = object; entries = entries }

-- a seat: what it has seen, and what it holds
pub record FileSeatInfo : Type 0 where
  pub seat : SeatInfo FileMark
  pub hold : Hold

abbrev pub file_seat : SeatInfo FileMark → Hold → FileSeatInfo
file_seat seat hold = record { seat = seat; hold = hold }

-- the seat belongs to this object; and it holds nothing
abbrev pub IsFileSeatOf : ObjectId → FileSeatInfo → Type 0
IsFileSeatOf object seat = seat.seat.object ≡ object

abbrev pub IsFreeSeatOf : ObjectId → FileSeatInfo → Type 0
IsFreeSeatOf object seat = IsFileSeatOf object seat × (seat.hold ≡ Nothing)

-- what a seat holds, as its marks show: as a reader 1, as a writer the number of seats; or nothing, and then no call of
-- it is open
abbrev pub IsHoldOf : SeatInfo FileMark → Hold → Type 0
IsHoldOf s Nothing = (amount_held s.name s.seen ≡ 0) × Owes kinds_of_call (words_by seat_of kind_of s.name s.seen) []
IsHoldOf s Reading = amount_held s.name s.seen ≡ 1
IsHoldOf s Writing = amount_held s.name s.seen ≡ s.object.seats

-- the seats of a new table hold nothing
abbrev pub idle_seats : List (SeatInfo FileMark) → List FileSeatInfo
idle_seats [] = []
idle_seats (seat ∷ seats) = file_seat seat Nothing ∷ idle_seats seats

-- the number of holds that a seat has had
abbrev pub one_take : FileKind → ℕ
one_take (Take n) = 1
one_take _ = 0

abbrev pub one_hold : FileMark → ℕ
one_hold m = one_take m.kind

abbrev pub holds_of : ℕ → List FileMark → ℕ
holds_of name h = sum_by one_hold (marks_of seat_of name h)

abbrev pub holds_had : SeatInfo FileMark → ℕ
holds_had s = holds_of s.name s.seen

-- ---- what calls do

-- the call of a seat leaves marks of these kinds
abbrev pub LeavesMarks : List FileKind → SeatInfo FileMark → SeatInfo FileMark → Type 0
LeavesMarks kinds old new = Appends (file_rules old.object.seats) (map (mark old.name) kinds) old new

-- what a hold takes of the table's count
abbrev pub amount_for : Access → SeatInfo FileMark → ℕ
amount_for access s = amount_of s.object.seats access

-- a hold is granted within the stint
pub record IsGranted (access : Access) (old new : FileSeatInfo) : Type 0 where
  pub within : holds_had old.seat < old.seat.stint
  pub leaves : LeavesMarks (Take (amount_for access old.seat) ∷ []) old.seat new.seat
  pub hold : new.hold ≡ hold_for access

-- a call beyond the stint changes nothing
pub record IsWorn (old new : FileSeatInfo) : Type 0 where
  pub spent : holds_had old.seat ≡ old.seat.stint
  pub unchanged : new ≡ old

-- a hold is refused at its test, or withdrawn after its subtraction; the count before that step is returned
pub record IsBusy (access : Access) (old new : FileSeatInfo) (answer : ℤ) : Type 0 where
  pub within : holds_had old.seat < old.seat.stint
  pub leaves : LeavesMarks (No (amount_for access old.seat) ∷ []) old.seat new.seat ⊎ LeavesMarks (Over (amount_for access old.seat) ∷ Back (amount_for access old.seat) ∷ []) old.seat new.seat
  pub answers : answer ≡ count old.seat.object.seats (before_appended seat_of 0 old.seat new.seat)
  pub hold : new.hold ≡ old.hold

abbrev pub IsRefused : Access → FileSeatInfo → FileSeatInfo → FileFault → Type 0
IsRefused access old new Worn = IsWorn old new
IsRefused access old new (Busy answer) = IsBusy access old new answer

-- each of these calls asked for this amount and was refused
abbrev pub AreRefused : ℕ → List WholeCall → Type 0
AreRefused n calls = All (λ (call : WholeCall). (call ≡ Refused n) ⊎ (call ≡ Withdrawn n)) calls

-- a hold is granted within the stint, after any number of refused calls
pub record IsWaitedFor (access : Access) (old new : FileSeatInfo) : Type 0 where
  pub within : holds_had old.seat < old.seat.stint
  pub tries : List WholeCall
  pub refused : AreRefused (amount_for access old.seat) tries
  pub leaves : LeavesMarks (flat_map kinds_of_call tries ++ Take (amount_for access old.seat) ∷ []) old.seat new.seat
  pub hold : new.hold ≡ hold_for access

-- an entry is read during a hold: as it is after the prefix that ends with the hold's Take, changed by the seat's own
-- Sets since; a reader has set nothing since
pub record IsGot (entry : ℕ) (old new : FileSeatInfo) (answer : FileEntry) : Type 0 where
  pub leaves : LeavesMarks [] old.seat new.seat
  pub hold : new.hold ≡ old.hold
  pub reading : old.hold ≡ Reading → answer ≡ entry_of (prefix_through_take old.seat.name new.seat.seen) entry
  pub holding : answer ≡ entry_of (prefix_through_take old.seat.name new.seat.seen ++ marks_since_take old.seat.name new.seat.seen) entry

-- a field is set during a writer's hold
pub record IsSet (entry : ℕ) (f : FileField) (to : ℕ) (old new : FileSeatInfo) : Type 0 where
  pub leaves : LeavesMarks (Set entry f to ∷ []) old.seat new.seat
  pub hold : new.hold ≡ old.hold

-- a hold is given back
pub record IsEnded (old new : FileSeatInfo) : Type 0 where
  pub leaves : LeavesMarks (Give ∷ []) old.seat new.seat
  pub hold : new.hold ≡ Nothing

-- ---- the end

-- this many entries from `entry` on, after a history
abbrev pub entries_after : List FileMark → ℕ → ℕ → List FileEntry
entries_after h entry zero = []
entries_after h entry (suc n) = entry_of h entry ∷ entries_after h (suc entry) n
