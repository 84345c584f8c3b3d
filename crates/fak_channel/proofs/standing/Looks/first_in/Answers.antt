use Rattle.std.proofs.Common.{◌≡◌, ℕ, ◌+◌, ◌/◌, ◌%◌, ◌^◌, ◌<◌, ◌≤◌, true, arith, subst}
use Rattle.std.specs.Int.{trailing_zeros, w64}
use Rattle.fak_channel_core.specs.SleeperSides.{has_bit}
use Rattle.fak_channel.proofs.FirstBit.{begun_within, found_set, none_set}
use Rattle.fak_channel.proofs.standing.Looks.first_in.Goals as goal

-- the bit that was found, counted from the first end of the word
at_end : (word from step : ℕ) → from % 64 + step < 64 → has_bit word (from % 64 + step) ≡ true
    → ((from + step) / 64 ≡ from / 64) × (from ≤ from + step) × (has_bit word ((from + step) % 64) ≡ true)
at_end word from step within set =
    let bit : from % 64 + step ≡ (from + step) % 64 = omega (arith, within) in
    (omega (arith, within), omega arith, subst (λ i. has_bit word i ≡ true) bit set)

pub returns-then-bit-step-lt64 : goal.returns-then-bit-step-lt64
returns-then-bit-step-lt64 c =
    let word = c.args.word in
    let from = c.args.self.from in
    let step = trailing_zeros w64 (word / 2 ^ (from % 64)) in
    let within : from % 64 + step < 64 = omega (arith, c.if-bit-step-lt64.true) in
    at_end word from step within (found_set word (from % 64) (omega (arith, c.ranges.word.fits)) within)

pub returns-else-bit-step-lt64 : goal.returns-else-bit-step-lt64
returns-else-bit-step-lt64 c =
    let word = c.args.word in
    let from = c.args.self.from in
    let step = trailing_zeros w64 (word / 2 ^ (from % 64)) in
    let beyond : 64 ≤ from % 64 + step = omega (arith, c.if-bit-step-lt64.false) in
    (begun_within word (from % 64) (omega (arith, c.ranges.word.fits)) c.requires.some beyond, none_set word (from % 64) (omega (arith, c.ranges.word.fits)) beyond)
