-- What an atomic step requires of a seat's token, and what it leaves.
use Rattle.std.specs.Prelude.{ℕ, ◌≡◌}
use Rattle.atomic_table.specs.Seated.{TableId}
use Rattle.atomic_table.specs.declared.shared.Seat.{Seat}
use Rattle.fak_model.specs.File.{seat_of}
use Rattle.fak_model.specs.Tokens.{IsSeatToken}
use Rattle.fak_files.specs.declared.limits.FileLimits.{FileLimits}
use Rattle.fak_files.specs.declared.phase.FilePhase.{FilePhase}
use Rattle.fak_files.specs.Shown.{FileView, FileHolder}
use Rattle.fak_files.specs.Words.{FitsTable}

abbrev pub FileToken : Type 0
FileToken = Seat (Unit {0}) FileView

-- the token belongs to this table, which was made with these limits, and to the seat of this name, which is at this phase
pub record IsTokenOf (table : TableId) (key made_with : FileLimits) (name : ℕ) (phase : FilePhase) (token : FileToken) : Type 0 where
  pub table_is : FitsTable token.table_id table key made_with
  pub seat : IsSeatToken seat_of made_with.seats name phase 0 token.me

-- a step leaves the token with its table; this holds of what the token knows now
pub record Tells (old new : FileToken) (tells : FileHolder → Type 0) : Type 0 where
  pub same : new.table_id ≡ old.table_id
  pub told : tells new.me
