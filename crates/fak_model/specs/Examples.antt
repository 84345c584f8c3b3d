-- Short lists of marks, on both sides of each part of what makes a history lawful.
use Rattle.std.specs.Prelude.{ℕ, List, [], ◌∷◌, ◌++◌}
use Rattle.fak_model.specs.declared.queue.Kind.{Kind}
use Rattle.fak_model.specs.declared.queue.Kind.TheVariants.{ClaimIn, Put, Fill, EndIn, ClaimOut, Got, Take, EndOut}
use Rattle.fak_model.specs.declared.queue.Mark.{Mark}
use Rattle.fak_model.specs.declared.room.RoomKind.{RoomKind}
use Rattle.fak_model.specs.declared.room.RoomMark.{RoomMark}
use Rattle.fak_model.specs.declared.file.FileKind.{FileKind}
use Rattle.fak_model.specs.declared.file.FileMark.{FileMark}

-- after the marks `before`, the marks `may` are lawful and the marks `may_not` are not
abbrev pub Parts : {M : Type 0} → (List M → Type 0) → List M → List M → List M → Type 0
Parts IsLawful before may may_not = IsLawful (before ++ may) × (IsLawful (before ++ may_not) → ⊥)

abbrev pub by : ℕ → Kind ℕ → Mark ℕ
by seat kind = record { seat = seat; kind = kind }

-- the marks of a whole insertion, and those of a whole deletion, with item and ticket
abbrev pub inserted : ℕ → ℕ → ℕ → List (Mark ℕ)
inserted seat item ticket = by seat ClaimIn ∷ by seat (Put item) ∷ by seat (Fill ticket) ∷ by seat EndIn ∷ []

abbrev pub deleted : ℕ → ℕ → ℕ → List (Mark ℕ)
deleted seat item ticket = by seat ClaimOut ∷ by seat (Got item) ∷ by seat (Take ticket) ∷ by seat EndOut ∷ []

abbrev pub room_by : ℕ → RoomKind → RoomMark
room_by seat kind = record { seat = seat; kind = kind }

abbrev pub file_by : ℕ → FileKind → FileMark
file_by seat kind = record { seat = seat; kind = kind }
