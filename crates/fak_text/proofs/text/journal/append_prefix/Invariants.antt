use Rattle.fak_text.proofs.Common.{◌≡◌, ◌++◌, take, string_bytes, child_prefix}
use Rattle.fak_text.proofs.text.journal.append_prefix.Given as goal

abbrev pub invariant-loop-number : goal.invariant-loop-number
invariant-loop-number l = string_bytes l.text ≡ string_bytes l.initial.text ++ child_prefix (take l.number-index l.name)
