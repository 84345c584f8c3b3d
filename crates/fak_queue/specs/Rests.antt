-- What the rest of a closed queue keeps.
use Rattle.std.specs.Prelude.{ℕ, ◌≡◌, Option}
use Rattle.std.specs.Slots.{slots_items, slots_len, IsFull}
use Rattle.atomic_table.specs.declared.owned.Closed.{Closed}
use Rattle.fak_queue.specs.Left.{AreLeft}

pub record IsRest {T A : Type 0} (closed : Closed (Option T) A) (size next count : ℕ) : Type 0 where
  pub full : IsFull closed.slots
  pub wide : slots_len closed.slots ≡ size
  pub left : AreLeft size (slots_items closed.slots) next count
