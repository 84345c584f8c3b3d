-- What a processor did in its holds of a file table, and what the marks of its seat show of them.
use Rattle.std.specs.Prelude.{◌≡◌, ◌⊎◌, ℕ, zero, suc, Bool, true, false, cond, List, [], ◌∷◌, ◌++◌, map}
use Rattle.std.specs.List.{All, filter, flat_map}
use Rattle.fak_model.specs.declared.file.FileEntry.{FileEntry}
use Rattle.fak_model.specs.declared.file.FileField.{FileField}
use Rattle.fak_model.specs.declared.file.FileField.TheVariants.{Inode, Uses}
use Rattle.fak_model.specs.declared.file.FileKind.{FileKind}
use Rattle.fak_model.specs.declared.file.FileKind.TheVariants.{Take, Set, Give}
use Rattle.fak_model.specs.declared.file.FileMark.{FileMark}
use Rattle.fak_model.specs.Histories.{words_by}
use Rattle.fak_model.specs.File.{Setting, set_mark, seat_of, kind_of}
use Rattle.fak_files.specs.Versions.{is_take_of}
use Rattle.fak_files.specs.Calls.{entries_after}
use Rattle.fak_text.specs.Journal.{NoteOf}
use Rattle.fak_run.specs.Replays.{Steps}

-- an entry with another field
abbrev pub with_field : FileEntry → FileField → ℕ → FileEntry
with_field e Inode v = record { inode = v; uses = e.uses }
with_field e Uses v = record { inode = e.inode; uses = v }

-- the entries after a field is set
abbrev pub set_in : List FileEntry → ℕ → FileField → ℕ → List FileEntry
set_in [] i f v = []
set_in (e ∷ entries) zero f v = with_field e f v ∷ entries
set_in (e ∷ entries) (suc i) f v = e ∷ set_in entries i f v

-- the entries after all these fields are set
abbrev pub set_all : List FileEntry → List Setting → List FileEntry
set_all entries [] = entries
set_all entries (s ∷ sets) = set_all (set_in entries s.entry s.field s.to) sets

-- a hold: its line, its amount, the entries that it read, and the fields that it set
pub record FileHold : Type 0 where
  pub line : NoteOf
  pub amount : ℕ
  pub read : List FileEntry
  pub sets : List Setting

-- the line has the result that the rules give for the entries read, the Sets make that change, and only a writer sets
pub record IsFitHold (k : ℕ) (hold : FileHold) : Type 0 where
  pub steps : Steps hold.read hold.line (set_all hold.read hold.sets)
  pub alone : (hold.sets ≡ []) ⊎ (hold.amount ≡ k)

abbrev pub is_of_hold : FileKind → Bool
is_of_hold (Take n) = true
is_of_hold (Set i f v) = true
is_of_hold Give = true
is_of_hold _ = false

-- the kinds of the marks that a name left in its holds
abbrev pub held_kinds : ℕ → List FileMark → List FileKind
held_kinds name h = filter is_of_hold (words_by seat_of kind_of name h)

-- the kinds of the marks that a hold leaves
abbrev pub kinds_of_hold : FileHold → List FileKind
kinds_of_hold hold = Take hold.amount ∷ (map set_mark hold.sets ++ Give ∷ [])

-- the n entries before each Take of a name among the marks of `h`, which come after `before`
abbrev pub reads_from : ℕ → ℕ → List FileMark → List FileMark → List (List FileEntry)
reads_from n name before [] = []
reads_from n name before (m ∷ h) = cond (is_take_of name m) (entries_after before 0 n ∷ reads_from n name (before ++ m ∷ []) h) (reads_from n name (before ++ m ∷ []) h)

abbrev pub reads_of : ℕ → ℕ → List FileMark → List (List FileEntry)
reads_of n name h = reads_from n name [] h

abbrev pub hold_line : FileHold → NoteOf
hold_line hold = hold.line

abbrev pub read_of : FileHold → List FileEntry
read_of hold = hold.read

-- these are the holds of a name, in order, in a history with n entries and k seats
pub record AreHolds (n k name : ℕ) (holds : List FileHold) (h : List FileMark) : Type 0 where
  pub kinds : held_kinds name h ≡ flat_map kinds_of_hold holds
  pub reads : reads_of n name h ≡ map read_of holds
  pub fit : All (IsFitHold k) holds

-- the lists of n seats from `first` on, one after the other
abbrev pub gather_from : {A : Type 0} → (ℕ → List A) → ℕ → ℕ → List A
gather_from lists first zero = []
gather_from lists first (suc n) = lists first ++ gather_from lists (suc first) n
