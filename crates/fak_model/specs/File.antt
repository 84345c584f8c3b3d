-- The histories of a file table with k seats: a count, k at the start, that readers lower by 1 and writers by k.
use Rattle.std.specs.Prelude.{ℕ, ◌≡◌, ◌⊎◌, ◌+◌, ◌==◌, ◌&&◌, cond, Bool, true, false, ℤ, pos, ◌-ℤ◌, ◌≤ℤ◌, ◌<ℤ◌, List, [], ◌∷◌, ◌++◌, map}
use Rattle.std.specs.List.{sum_by}
use Rattle.fak_model.specs.declared.file.FileField.{FileField}
use Rattle.fak_model.specs.declared.file.FileField.TheVariants.{Inode, Uses}
use Rattle.fak_model.specs.declared.file.FileKind.{FileKind}
use Rattle.fak_model.specs.declared.file.FileKind.TheVariants.{Take, Over, Back, No, Set, Give}
use Rattle.fak_model.specs.declared.file.FileMark.{FileMark}
use Rattle.fak_model.specs.Histories.{Rules, words_by, IsHistory}

abbrev pub seat_of : FileMark → ℕ
seat_of m = m.seat

abbrev pub kind_of : FileMark → FileKind
kind_of m = m.kind

-- one write of a field of an entry
pub record Setting : Type 0 where
  pub entry : ℕ
  pub field : FileField
  pub to : ℕ

abbrev pub set_mark : Setting → FileKind
set_mark s = Set s.entry s.field s.to

-- a whole call
pub data WholeCall : Type 0 where
  Refused : ℕ → WholeCall
  Withdrawn : ℕ → WholeCall
  Held : ℕ → List Setting → WholeCall

abbrev pub kinds_of_call : WholeCall → List FileKind
kinds_of_call (Refused n) = No n ∷ []
kinds_of_call (Withdrawn n) = Over n ∷ Back n ∷ []
kinds_of_call (Held n sets) = Take n ∷ (map set_mark sets ++ Give ∷ [])

abbrev pub take_amount : FileKind → ℕ
take_amount (Take n) = n
take_amount _ = 0

abbrev pub over_amount : FileKind → ℕ
over_amount (Over n) = n
over_amount _ = 0

abbrev pub back_amount : FileKind → ℕ
back_amount (Back n) = n
back_amount _ = 0

abbrev pub total : (FileKind → ℕ) → List FileMark → ℕ
total amount h = sum_by amount (map kind_of h)

-- the amount that a seat holds: that of its last Take, or 0 after a Give
abbrev pub hold_after : ℕ → FileKind → ℕ
hold_after n (Take a) = a
hold_after n Give = 0
hold_after n _ = n

abbrev pub hold_from : ℕ → List FileKind → ℕ
hold_from n [] = n
hold_from n (k ∷ ks) = hold_from (hold_after n k) ks

abbrev pub amount_held : ℕ → List FileMark → ℕ
amount_held seat h = hold_from 0 (words_by seat_of kind_of seat h)

-- the amounts of the holds that the marks of `rest`, which come after `before`, give back
abbrev pub gives : ℕ → FileKind → ℕ
gives n Give = n
gives n _ = 0

abbrev pub amount_given_from : List FileMark → List FileMark → ℕ
amount_given_from before [] = 0
amount_given_from before (m ∷ rest) = gives (amount_held m.seat before) m.kind + amount_given_from (before ++ m ∷ []) rest

abbrev pub amount_given : List FileMark → ℕ
amount_given h = amount_given_from [] h

-- k minus the Takes and Overs, plus the Backs and the holds given back
abbrev pub count : ℕ → List FileMark → ℤ
count k p = pos (k + total back_amount p + amount_given p) -ℤ pos (total take_amount p + total over_amount p)

abbrev pub IsAmount : ℕ → ℕ → Type 0
IsAmount k n = (n ≡ 1) ⊎ (n ≡ k)

abbrev pub IsFair : ℕ → List FileMark → ℕ → FileKind → Type 0
IsFair k before seat (Take n) = IsAmount k n × (pos n ≤ℤ count k before)
IsFair k before seat (No n) = IsAmount k n × (count k before <ℤ pos n)
IsFair k before seat (Over n) = IsAmount k n × (count k before <ℤ pos n)
IsFair k before seat (Set i f v) = amount_held seat before ≡ k
IsFair k before seat _ = Unit {0}

abbrev pub file_rules : ℕ → Rules FileMark FileKind WholeCall
file_rules k = record {
  seat_of = seat_of;
  word_of = kind_of;
  words_of = kinds_of_call;
  IsFair = λ before m. IsFair k before m.seat m.kind;
}

abbrev pub IsFileHistory : ℕ → List FileMark → Type 0
IsFileHistory k h = IsHistory (file_rules k) h

-- the value of the last Set of this field of this entry, 0 if there is none
abbrev pub same_field : FileField → FileField → Bool
same_field Inode Inode = true
same_field Uses Uses = true
same_field _ _ = false

abbrev pub field_after : ℕ → FileField → ℕ → FileKind → ℕ
field_after i f v (Set j g w) = cond ((i == j) && same_field f g) w v
field_after i f v _ = v

abbrev pub field_from : ℕ → FileField → ℕ → List FileMark → ℕ
field_from i f v [] = v
field_from i f v (m ∷ h) = field_from i f (field_after i f v m.kind) h

abbrev pub field : List FileMark → ℕ → FileField → ℕ
field h i f = field_from i f 0 h
