use Rattle.std.proofs.Common.{ap, ◌∙◌, ◌-◌}
use Rattle.std.specs.Int.{bit_at}
use Rattle.std.proofs.lemmas.Nat.{one_shl}
use Rattle.std.proofs.lemmas.Nat.Bits.{bit_at_ones}
use Rattle.fak_handles.proofs.channel.lending.low_bits.Goals as goal

pub returns-then-count-ge64 : goal.returns-then-count-ge64
returns-then-count-ge64 c = λ i low small. bit_at_ones 64 i small

pub returns-else-count-ge64 : goal.returns-else-count-ge64
returns-else-count-ge64 c = λ i low small. ap (λ m. bit_at (m - 1) i) (one_shl c.args.count 64 c.if-count-ge64.false) ∙ bit_at_ones c.args.count i low
