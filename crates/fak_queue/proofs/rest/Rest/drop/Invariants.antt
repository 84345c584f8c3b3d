use Rattle.fak_queue.proofs.Common.{◌≡◌, ℕ, ◌-◌, ◌<◌, false, get_or, slots_filled, slots_len}
use Rattle.std.specs.Slots.Ownership.{Filled}
use Rattle.fak_queue.proofs.rest.Rest.drop.Given as goal

-- the cells below this one are empty, the others full
abbrev pub invariant-loop-cell : goal.invariant-loop-cell
invariant-loop-cell g l = Filled (slots_filled l.closed.slots) l.cell (slots_len l.closed.slots) × ((k : ℕ) → k < l.cell → get_or (slots_filled l.closed.slots) k false ≡ false)

abbrev pub decreases-loop-cell : goal.decreases-loop-cell
decreases-loop-cell g l = slots_len l.closed.slots - l.cell
