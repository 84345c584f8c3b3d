-- How many workers a pool may have.
use Rattle.std.specs.Prelude.{ℕ, ◌≤◌}

abbrev pub AreWorkers : ℕ → Type 0
AreWorkers workers = (1 ≤ workers) × (workers ≤ 63)
