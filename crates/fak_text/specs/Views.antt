-- The program's steps and notes as plain data.
use Rattle.std.specs.Prelude.{List, map, Vec, string_bytes}
use Rattle.std.specs.declared.alloc.Global.{Global}
use Rattle.fak_text.specs.declared.steps.Step.{Step}
use Rattle.fak_text.specs.declared.steps.Step.TheVariants as steps
use Rattle.fak_text.specs.declared.steps.Note.{Note}
use Rattle.fak_text.specs.declared.steps.Note.TheVariants as notes
use Rattle.fak_text.specs.Script.{StepOf, say, yield, down, up, open_file, close_file, stat, spawn, shutdown}
use Rattle.fak_text.specs.Journal.{NoteOf, said, yielded, downed, upped, opened, closed, statted, spawned, no_birth, no_slot, shut_down}

abbrev pub step_of : Step → StepOf
step_of (steps.Say text) = say (string_bytes text)
step_of steps.Yield = yield
step_of (steps.Down s) = down s
step_of (steps.Up s) = up s
step_of (steps.OpenFile n) = open_file n
step_of (steps.CloseFile n) = close_file n
step_of (steps.Stat n) = stat n
step_of (steps.Spawn p) = spawn p
step_of steps.Shutdown = shutdown

abbrev pub note_of : Note → NoteOf
note_of (notes.Say text) = said (string_bytes text)
note_of notes.Yield = yielded
note_of (notes.Down s) = downed s
note_of (notes.Up s) = upped s
note_of (notes.OpenFile n entry) = opened n entry
note_of (notes.CloseFile n entry) = closed n entry
note_of (notes.Stat n uses) = statted n uses
note_of (notes.Spawned j) = spawned j
note_of notes.NoBirth = no_birth
note_of notes.NoSlot = no_slot
note_of notes.Shutdown = shut_down

abbrev pub steps_view : List Step → List StepOf
steps_view steps = map step_of steps

abbrev pub programs_of : List (Vec Step Global) → List (List StepOf)
programs_of programs = map (λ p. steps_view p.items) programs
