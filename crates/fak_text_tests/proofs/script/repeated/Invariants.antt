use Rattle.std.proofs.Common.{◌+◌, ◌≤◌, length, string_bytes}
use Rattle.fak_text_tests.proofs.script.repeated.Given as goal

-- each item but the first has a comma before it
abbrev pub invariant-loop-made : goal.invariant-loop-made
invariant-loop-made g l = l._made ≤ length (string_bytes l.text) + 1
