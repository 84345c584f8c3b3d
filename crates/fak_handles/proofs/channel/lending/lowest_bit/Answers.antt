use Rattle.std.specs.Int.{w64}
use Rattle.std.proofs.Common.{arith}
use Rattle.std.proofs.lemmas.Nat.Bits.{bit_at-trailing_zeros}
use Rattle.fak_handles.proofs.channel.lending.lowest_bit.Goals as goal

pub returns : goal.returns
returns c = let is = bit_at-trailing_zeros w64 c.args.word (omega arith) (omega arith) in record { small = is.0; set = is.1; below = is.2 }
