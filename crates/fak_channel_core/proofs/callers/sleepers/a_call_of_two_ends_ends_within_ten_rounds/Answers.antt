use Rattle.std.specs.Prelude.{ℕ, ◌≡◌, ◌≤◌, ◌+◌, ◌*◌, min}
use Rattle.std.proofs.Common.{arith}
use Rattle.fak_channel_core.proofs.callers.sleepers.a_call_of_two_ends_ends_within_ten_rounds.Goals as goal

ten : (size k : ℕ) → k ≡ 10 → 3 * min size 2 + 4 ≤ k
ten size k q = omega (arith, q, most size 2)
  where
    most : (a b : ℕ) → min a b ≤ b
    most a b = grind arith

pub returns : goal.returns
returns g c = λ size e schedule rounds z each q. c.every_call_of_a_channel_ends.ensures 2 size e schedule rounds z each (ten size _ q)
