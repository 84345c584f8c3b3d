use Rattle.std.proofs.Common.{string_bytes, ◌≡◌, ◌++◌, drop, flat_map}
use Rattle.fak_replay.specs.Replay.{actions_of, rows_from, text_of_rows}
use Rattle.fak_replay.specs.Trace.{KeepsItsLine}
use Rattle.fak_replay.proofs.events.trace_of.Given as goal

-- what is printed so far, and the events that are still to come, print what all events print; and the last line is kept
abbrev pub invariant-loop-event : goal.invariant-loop-event
invariant-loop-event l =
    (string_bytes l.trace.text ++ text_of_rows (rows_from l.machine (flat_map actions_of (drop l.event-index l.events)))
    ≡ text_of_rows (rows_from l.initial.machine (flat_map actions_of l.events)))
    × KeepsItsLine l.trace
