-- Seats of file tables: what is asked of the library, and what the exported functions return.
use Rattle.std.specs.Prelude.{◌≡◌, ◌≢◌, ◌<◌, ℕ, ℤ, pos, Option, Some, None, Result, Ok, Err, MatchOption, MatchResult}
use Rattle.std.specs.Arc.{arc_value}
use Rattle.fak_model.specs.declared.file.FileEntry.{FileEntry}
use Rattle.fak_model.specs.declared.file.FileField.{FileField}
use Rattle.fak_files.specs.declared.fault.FileFault.{FileFault}
use Rattle.fak_files.specs.declared.fault.FileFault.TheVariants.{Worn, Busy}
use Rattle.fak_files.specs.declared.phase.Access.{Access}
use Rattle.fak_files.specs.declared.phase.Hold.{Hold}
use Rattle.fak_files.specs.declared.phase.Hold.TheVariants.{Nothing, Reading, Writing}
use Rattle.fak_files.specs.Calls.{IsGranted, IsRefused, IsGot, IsSet, IsEnded}
use Rattle.fak_handles.specs.declared.files.seat.FileDesk.{FileDesk}

abbrev pub SameTable : FileDesk → FileDesk → Type 0
SameTable d e = arc_value e.table ≡ arc_value d.table

abbrev pub IsHolding : FileDesk → FileDesk → Type 0
IsHolding d e = (d.seat.hold ≢ Nothing) × (e ≡ d)

abbrev pub IsNotHolding : FileDesk → FileDesk → Type 0
IsNotHolding d e = (d.seat.hold ≡ Nothing) × (e ≡ d)

-- there is no such entry, or the seat has no hold; or none to write in
abbrev pub MayNotGet : ℕ → FileDesk → FileDesk → Type 0
MayNotGet i d e = ((d.seat.hold ≢ Nothing) × (i < (arc_value d.table).entries) → ⊥) × (e ≡ d)

abbrev pub MayNotSet : ℕ → FileDesk → FileDesk → Type 0
MayNotSet i d e = ((d.seat.hold ≡ Writing) × (i < (arc_value d.table).entries) → ⊥) × (e ≡ d)

abbrev pub AsksHold : Access → Result (Unit {0}) FileFault → FileDesk → FileDesk → Type 0
AsksHold access answer d e = MatchResult answer (λ _. IsGranted access d.seat e.seat) (λ fault. IsRefused access d.seat e.seat fault)

abbrev pub hold_answer : Option (Result (Unit {0}) FileFault) → ℤ
hold_answer None = pos 7
hold_answer (Some (Ok u)) = pos 0
hold_answer (Some (Err (Busy v))) = pos 12
hold_answer (Some (Err Worn)) = pos 5

abbrev pub count_or : ℤ → Option (Result (Unit {0}) FileFault) → ℤ
count_or n None = n
count_or n (Some (Ok u)) = n
count_or n (Some (Err (Busy v))) = v
count_or n (Some (Err Worn)) = n

abbrev pub may_code : {T : Type 0} → Option T → ℤ
may_code None = pos 7
may_code (Some x) = pos 0

abbrev pub inode_or : ℕ → Option FileEntry → ℕ
inode_or n None = n
inode_or n (Some entry) = entry.inode

abbrev pub uses_or : ℕ → Option FileEntry → ℕ
uses_or n None = n
uses_or n (Some entry) = entry.uses

abbrev pub hold_code : Hold → ℕ
hold_code Nothing = 0
hold_code Reading = 1
hold_code Writing = 2

pub record TriesHold (access : Access) (code before after : ℤ) (d e : FileDesk) : Type 0 where
  pub answer : Option (Result (Unit {0}) FileFault)
  pub code_is : code ≡ hold_answer answer
  pub count_is : after ≡ count_or before answer
  pub call : MatchOption answer (IsHolding d e) (λ r. AsksHold access r d e)

pub record Gets (code : ℤ) (i inode inode' uses uses' : ℕ) (d e : FileDesk) : Type 0 where
  pub answer : Option FileEntry
  pub code_is : code ≡ may_code answer
  pub inode_is : inode' ≡ inode_or inode answer
  pub uses_is : uses' ≡ uses_or uses answer
  pub call : MatchOption answer (MayNotGet i d e) (λ entry. IsGot i d.seat e.seat entry)

pub record Sets (code : ℤ) (i : ℕ) (f : FileField) (to : ℕ) (d e : FileDesk) : Type 0 where
  pub answer : Option (Unit {0})
  pub code_is : code ≡ may_code answer
  pub call : MatchOption answer (MayNotSet i d e) (λ _. IsSet i f to d.seat e.seat)

pub record Ends (code : ℤ) (d e : FileDesk) : Type 0 where
  pub answer : Option (Unit {0})
  pub code_is : code ≡ may_code answer
  pub call : MatchOption answer (IsNotHolding d e) (λ _. IsEnded d.seat e.seat)

pub record LooksAtHold (code : ℤ) (hold : ℕ) (d e : FileDesk) : Type 0 where
  pub code_is : code ≡ pos 0
  pub same : e ≡ d
  pub hold_is : hold ≡ hold_code d.seat.hold
