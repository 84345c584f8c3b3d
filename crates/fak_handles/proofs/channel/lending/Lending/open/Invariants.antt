use Rattle.std.proofs.Common.{◌≡◌, ℕ, ◌<◌, ◌+◌, ◌*◌}
use Rattle.std.specs.Prelude.{slice_index}
use Rattle.std.specs.Int.{bit_at}
use Rattle.fak_handles.proofs.channel.lending.Lending.open.Given as goal

-- the words below this one have a bit set for each end
abbrev pub invariant-loop-index : goal.invariant-loop-index
invariant-loop-index l = (i j : ℕ) → i < l.index → 64 * i + j < l.count → j < 64 → bit_at (slice_index l.word-items i) j ≡ 1
