use Rattle.std.proofs.Common.{string_bytes, ◌≡◌, ◌++◌, ◌-◌, List, replicate}
use Rattle.fak_replay.specs.Replay.{Action, rows_from, steps, text_of_rows}
use Rattle.fak_replay.specs.Trace.{KeepsItsLine}
use Rattle.fak_replay.proofs.events.make_steps.Given as goal

-- what is printed so far, and the steps that are still to come, print what all steps print; and the last line is kept
abbrev pub invariant-loop-made : goal.invariant-loop-made
invariant-loop-made l =
    ((rest : List Action) → string_bytes l.trace.text ++ text_of_rows (rows_from l.machine (replicate (l.count - l.made) (steps l.seat) ++ rest))
    ≡ string_bytes l.initial.trace.text ++ text_of_rows (rows_from l.initial.machine (replicate l.count (steps l.seat) ++ rest)))
    × KeepsItsLine l.trace
