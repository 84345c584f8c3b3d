use Rattle.std.proofs.Common.{arith}
use Rattle.fak_handles.proofs.EndBits.{lowest_set, none_below}
use Rattle.fak_handles.proofs.channel.lending.Lending.first_idle.Goals as goal

pub returns-then-number-self : goal.returns-then-number-self
returns-then-number-self c =
    let words = c.args.self.now.idle in
    let set = lowest_set words c.loop-index.index c.lowest_bit.result c.loop-index.invariant c.lowest_bit.ensures in
    let small = c.lowest_bit.ensures.small in
    record { idle = ((c.if-number-self.true, set), omega arith) }

pub returns-else-number-self : goal.returns-else-number-self
returns-else-number-self c = record {
  idle = λ k is. none_below c.args.self.now.idle c.loop-index.index c.lowest_bit.result c.loop-index.invariant c.lowest_bit.ensures k (omega arith) is.1;
}
