-- Journals and processes as plain data, and which journals fit a script.
use Rattle.std.specs.Prelude.{◌≡◌, ℕ, ◌+◌, ◌<◌, List, [], ◌∷◌, ◌++◌, length, slice_get, Option, Some, IfSome}
use Rattle.fak_text.specs.Script.{StepOf, say, yield, down, up, open_file, close_file, stat, spawn, shutdown, ScriptOf, steps_of}

-- a step that was done, with its result
pub data NoteOf : Type 0 where
  said : List ℕ → NoteOf
  yielded : NoteOf
  downed : ℕ → NoteOf
  upped : ℕ → NoteOf
  opened : ℕ → Option ℕ → NoteOf
  closed : ℕ → Option ℕ → NoteOf
  statted : ℕ → Option ℕ → NoteOf
  spawned : ℕ → NoteOf
  no_birth : NoteOf
  no_slot : NoteOf
  shut_down : NoteOf

-- a process: its name is the path of numbers from the process that was started first
pub record Process : Type 0 where
  pub name : List ℕ
  pub program : ℕ
  pub slot : ℕ
  pub position : ℕ
  pub journal : List NoteOf

-- a process at the beginning of its program
abbrev pub new_process : List ℕ → ℕ → ℕ → Process
new_process name program slot = record { name = name; program = program; slot = slot; position = 0; journal = [] }

-- the process once it has done a step, with this note of it
abbrev pub after_note : Process → NoteOf → Process
after_note process note = record process { position = process.position + 1; journal = process.journal ++ note ∷ [] }

-- the next step of the process is this one
abbrev pub StandsAt : ScriptOf → Process → StepOf → Type 0
StandsAt script process step = slice_get (steps_of script process.program) process.position ≡ Some step

-- how many children a step began
abbrev pub births_of : NoteOf → ℕ
births_of (spawned _) = 1
births_of _ = 0

-- how many children the steps of a journal began
abbrev pub child_count : List NoteOf → ℕ
child_count [] = 0
child_count (note ∷ notes) = births_of note + child_count notes

-- the step allows this result, if there are this many files and the process has this many children before it
abbrev pub Allows : ℕ → ℕ → StepOf → NoteOf → Type 0
Allows files children (say text) (said t) = t ≡ text
Allows files children yield yielded = Unit {0}
Allows files children (down s) (downed t) = t ≡ s
Allows files children (up s) (upped t) = t ≡ s
Allows files children (open_file n) (opened m entry) = (m ≡ n) × IfSome entry (λ i. i < files)
Allows files children (close_file n) (closed m entry) = (m ≡ n) × IfSome entry (λ i. i < files)
Allows files children (stat n) (statted m uses) = m ≡ n
Allows files children (spawn p) (spawned j) = j ≡ children
Allows files children (spawn p) no_birth = Unit {0}
Allows files children (spawn p) no_slot = Unit {0}
Allows files children shutdown shut_down = Unit {0}
Allows files children _ _ = ⊥

-- the notes are one for each step of a prefix of the program, in order, if the process has this many children before
abbrev pub FitsFrom : ℕ → ℕ → List StepOf → List NoteOf → Type 0
FitsFrom files children steps [] = Unit {0}
FitsFrom files children [] (note ∷ notes) = ⊥
FitsFrom files children (step ∷ steps) (note ∷ notes) = Allows files children step note × FitsFrom files (children + births_of note) steps notes

-- a process is one of the script's, and its journal has a note for each step before its position
pub record FitsScript (script : ScriptOf) (process : Process) : Type 0 where
  pub program : process.program < length script.programs
  pub slot : process.slot < script.slots
  pub position : process.position ≡ length process.journal
  pub fits : FitsFrom script.files 0 (steps_of script process.program) process.journal
