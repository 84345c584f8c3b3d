-- How the laws of small steps describe a turn and its process.
use Rattle.std.specs.Prelude.{◌+◌, Bool, [], ◌∷◌, ◌++◌, Some}
use Rattle.fak_text.specs.Journal.{NoteOf, Process}
use Rattle.fak_run.specs.ListScheduler.{Lists, State, Turn}

-- this turn has the processor
abbrev pub on_turn : Lists → Turn → State
on_turn s t = record { running = Some t; lists = s }

-- the process after one more step, with this note at the end of its journal
abbrev pub process_after : Process → NoteOf → Process
process_after p note = record { name = p.name; program = p.program; slot = p.slot; position = p.position + 1; journal = p.journal ++ note ∷ [] }

-- the turn after one more step, with this note; the last argument is whether it was a yield
abbrev pub turn_after : Turn → NoteOf → Bool → Turn
turn_after t note yields = record { process = process_after t.process note; made = t.made + 1; has_yielded = yields }
