use Rattle.std.proofs.Common.{◌≡◌, ℕ, List, take}
use Rattle.std.specs.Io.KnownBytes.{Consumes}
use Rattle.fak_commands.proofs.service.read_input.Given as goal
use Rattle.fak_text.specs.Values.{most_kept}

-- what was consumed so far, and that its front is kept
abbrev pub invariant-loop : goal.invariant-loop
invariant-loop g l = (bytes : List ℕ) × Consumes (g.R.Read.remaining l.initial.reader) (g.R.Read.remaining l.reader) bytes × (l.kept.items ≡ take most_kept bytes)
