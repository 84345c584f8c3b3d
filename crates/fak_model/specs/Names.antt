-- Sets of names of seats.
use Rattle.std.specs.Prelude.{ℕ, ◌≡◌, ◌↔◌, List, true, false, slice_index_or}
use Rattle.fak_model.specs.declared.name_set.NameSet.{NameSet}
use Rattle.fak_model.specs.Seats.{In}

-- the name is in the set
abbrev pub Has : NameSet → ℕ → Type 0
Has s name = slice_index_or s.flags name false ≡ true

-- the set has exactly these names
abbrev pub HasJust : NameSet → List ℕ → Type 0
HasJust s names = (n : ℕ) → Has s n ↔ In n names
