use Rattle.fak_processor.proofs.Common.{◌≡◌, ◌<◌, ℕ, [], length, slice_get, Some, HasJustTaken, Left, entry_of}
use Rattle.fak_run.specs.OnlyFiles.{IsOnlyFiles, KeepsFiles}
use Rattle.fak_processor.proofs.seats.files.Files.refresh.Given as goal

-- the entries below this one were read
abbrev pub invariant-loop-i : goal.invariant-loop-i
invariant-loop-i l =
    (l.seat.seat.object ≡ l.table.object) × (l.seat.hold ≡ l.initial.seat.hold) × (length l.self-inside.entries.items ≡ l.table.entries)
    × Left [] l.initial.seat.seat l.seat.seat
    × (HasJustTaken l.initial.seat.seat → (j : ℕ) → j < l.i → slice_get l.self-inside.entries.items j ≡ Some (entry_of l.initial.seat.seat.seen j))
    × (IsOnlyFiles l.initial.seat → KeepsFiles l.initial.seat l.seat × ((j : ℕ) → j < l.i → slice_get l.self-inside.entries.items j ≡ Some (entry_of l.initial.seat.seat.seen j)))
