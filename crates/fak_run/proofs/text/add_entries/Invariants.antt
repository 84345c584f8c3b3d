use Rattle.fak_run.proofs.Common.{string_bytes, ◌≡◌, ◌++◌, drop, text_of_entries}
use Rattle.fak_run.proofs.text.add_entries.Given as goal

abbrev pub invariant-loop-i : goal.invariant-loop-i
invariant-loop-i l = string_bytes l.text ++ text_of_entries l.i (drop l.i l.entries) ≡ string_bytes l.fn.text ++ text_of_entries 0 l.entries
