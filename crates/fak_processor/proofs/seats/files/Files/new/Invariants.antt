use Rattle.fak_processor.proofs.Common.{◌≡◌, replicate, free_entry}
use Rattle.fak_processor.proofs.seats.files.Files.new.Given as goal

abbrev pub invariant-loop : goal.invariant-loop
invariant-loop l = l.entries.items ≡ replicate l.counter free_entry
