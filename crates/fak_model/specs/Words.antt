-- How a word keeps a count that may be below 0.
use Rattle.std.specs.Prelude.{ℕ}

-- what is added to a count to get its word: 2^62
abbrev pub bias : ℕ
bias = 4611686018427387904
