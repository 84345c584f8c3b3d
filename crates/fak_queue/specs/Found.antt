-- What a test of a count finds in the history. Histories have the oldest mark first.
use Rattle.std.specs.Prelude.{◌≡◌, ℕ, ℤ, pos, ◌≤ℤ◌, ◌<ℤ◌, List}
use Rattle.fak_model.specs.declared.queue.Kind.TheVariants.{Close}
use Rattle.fak_model.specs.declared.queue.Mark.{Mark}
use Rattle.fak_model.specs.Queue.{Has, upper_count, lower_count}

module _ {T : Type 0} where
  -- a queue of this size is open, and has room
  abbrev pub HasRoom : ℕ → List (Mark T) → Type 0
  HasRoom size h = (upper_count h <ℤ pos size) × (Has Close h → ⊥)

  -- it is open, and this upper count is at least its size
  abbrev pub HasNoRoom : ℕ → ℤ → List (Mark T) → Type 0
  HasNoRoom size upper h = (upper ≡ upper_count h) × (pos size ≤ℤ upper) × (Has Close h → ⊥)

  -- a queue has an item
  abbrev pub HasItem : List (Mark T) → Type 0
  HasItem h = pos 0 <ℤ lower_count h

  -- this lower count is at most 0
  abbrev pub HasNoItem : ℤ → List (Mark T) → Type 0
  HasNoItem lower h = (lower ≡ lower_count h) × (lower ≤ℤ pos 0)
