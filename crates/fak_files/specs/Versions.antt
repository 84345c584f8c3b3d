-- What a seat reads during a hold: the history up to its Take, and what it set since. Histories have the oldest mark first.
use Rattle.std.specs.Prelude.{ℕ, ◌≡◌, ◌≢◌, All, ◌==◌, ◌&&◌, Bool, true, false, cond, List, [], ◌∷◌, reverse}
use Rattle.fak_model.specs.declared.file.FileEntry.{FileEntry}
use Rattle.fak_model.specs.declared.file.FileField.TheVariants.{Inode, Uses}
use Rattle.fak_model.specs.declared.file.FileKind.{FileKind}
use Rattle.fak_model.specs.declared.file.FileKind.TheVariants.{Take, Set, Give}
use Rattle.fak_model.specs.declared.file.FileMark.{FileMark}
use Rattle.fak_model.specs.File.{field}

-- an entry after a history
abbrev pub entry_of : List FileMark → ℕ → FileEntry
entry_of h entry = record { inode = field h entry Inode; uses = field h entry Uses }

abbrev pub is_take : FileKind → Bool
is_take (Take n) = true
is_take _ = false

abbrev pub is_set : FileKind → Bool
is_set (Set i f v) = true
is_set _ = false

-- none of the marks is a Give of this name
abbrev pub KeepsHold : ℕ → List FileMark → Type 0
KeepsHold name h = All (λ (m : FileMark). m.seat ≡ name → m.kind ≢ Give) h

abbrev pub is_take_of : ℕ → FileMark → Bool
is_take_of name m = (m.seat == name) && is_take m.kind

-- of marks with the newest first: the last Take of this name, and all older marks
abbrev pub back_from_take : ℕ → List FileMark → List FileMark
back_from_take name [] = []
back_from_take name (m ∷ past) = cond (is_take_of name m) (m ∷ past) (back_from_take name past)

-- of marks with the newest first: the name's own marks that are newer than its last Take
abbrev pub own_since_take : ℕ → List FileMark → List FileMark
own_since_take name [] = []
own_since_take name (m ∷ past) = cond (is_take_of name m) [] (cond (m.seat == name) (m ∷ own_since_take name past) (own_since_take name past))

-- the longest prefix that ends with a Take of this name
abbrev pub prefix_through_take : ℕ → List FileMark → List FileMark
prefix_through_take name h = reverse (back_from_take name (reverse h))

-- the name's own marks after that prefix
abbrev pub marks_since_take : ℕ → List FileMark → List FileMark
marks_since_take name h = reverse (own_since_take name (reverse h))
