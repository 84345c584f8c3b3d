use Rattle.std.proofs.Common.{◌≡◌, ℕ, ◌<◌}
use Rattle.std.specs.Prelude.{slice_index}
use Rattle.fak_handles.proofs.channel.lending.Lending.first_idle.Given as goal

-- the words below this one have no bit set
abbrev pub invariant-loop-index : goal.invariant-loop-index
invariant-loop-index l = (i : ℕ) → i < l.index → slice_index l.self.idle i ≡ 0
