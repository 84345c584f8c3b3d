use Rattle.std.proofs.Common.{◌≡◌, ◌≤◌}
use Rattle.fak_handles.specs.channel.Lending.{idle_below}
use Rattle.fak_handles.proofs.channel.lending.Lending.is_at_rest.Given as goal

-- the idle ends below this one
abbrev pub invariant-loop-number : goal.invariant-loop-number
invariant-loop-number l = (l.idle ≡ idle_below l.self.idle l.number) × (l.idle ≤ l.number)
