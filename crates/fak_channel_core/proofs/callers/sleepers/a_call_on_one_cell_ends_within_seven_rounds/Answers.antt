use Rattle.std.specs.Prelude.{◌≡◌, ℕ, ◌*◌, ◌+◌, ◌≤◌, min}
use Rattle.std.proofs.Common.{arith}
use Rattle.fak_channel_core.proofs.callers.sleepers.a_call_on_one_cell_ends_within_seven_rounds.Goals as goal

seven : (n k : ℕ) → k ≡ 7 → 3 * min 1 n + 4 ≤ k
seven n k q = omega (arith, q, least 1 n)
  where
    least : (a b : ℕ) → min a b ≤ a
    least a b = grind arith

pub returns : goal.returns
returns g c = λ n e schedule rounds each q. c.every_call_of_a_channel_ends.ensures n 1 e schedule rounds (omega arith) each (seven n _ q)
