use Rattle.example_lines.specs.Lines.{Stands}
use Rattle.example_lines.proofs.receive.Given as goal

-- the seat has got out what was counted
abbrev pub invariant-loop : goal.invariant-loop
invariant-loop g l = Stands l.queue.object 0 0 l.lines l.bytes l.seat
