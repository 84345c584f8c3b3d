-- What an atomic step requires of a seat's token, and what it leaves.
use Rattle.std.specs.Prelude.{◌≡◌, Some}
use Rattle.atomic_table.specs.Seated.{TableId}
use Rattle.atomic_table.specs.Table.{Me}
use Rattle.atomic_table.specs.declared.shared.Seat.{Seat}
use Rattle.fak_model.specs.declared.view.View.{View}
use Rattle.fak_model.specs.Views.{HasOneName}
use Rattle.fak_count.specs.Words.{FitsTable}

-- the token belongs to this table, which was made with this key, and to one seat, which is at this phase
pub record IsTokenOf {K M P : Type 0} (table : TableId) (key made_with : K) (phase : P) (token : Seat (Unit {0}) (View M P)) : Type 0 where
  pub table_is : FitsTable token.table_id table key made_with
  pub seat : HasOneName token.me.0
  pub stands : token.me.0.phase ≡ Some phase

-- a step leaves the token with its table; this holds of what the token knows now
pub record Tells {M P : Type 0} (old new : Seat (Unit {0}) (View M P)) (tells : Me (Unit {0}) (View M P) → Type 0) : Type 0 where
  pub same : new.table_id ≡ old.table_id
  pub told : tells new.me
