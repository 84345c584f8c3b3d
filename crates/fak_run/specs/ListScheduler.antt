-- The list scheduler: what one processor does with a script, by lists. It is a machine of small steps; `EndsIn` defines
-- its end.
use Rattle.std.specs.Prelude.{◌≡◌, ℕ, zero, suc, ◌+◌, ◌-◌, ◌==◌, ◌||◌, Bool, true, false, nat_lt, List, [], ◌∷◌, ◌++◌, length, map, replicate, slice_get, slice_set, slice_index, slice_index_or, Option, Some, None}
use Rattle.fak_model.specs.declared.file.FileEntry.{FileEntry}
use Rattle.fak_text.specs.Script.{ScriptOf, StepOf, say, yield, down, up, open_file, close_file, stat, spawn, shutdown, steps_of}
use Rattle.fak_text.specs.Journal.{NoteOf, said, yielded, downed, upped, opened, closed, statted, spawned, no_birth, no_slot, shut_down, Process, new_process, after_note, child_count}
use Rattle.fak_run.specs.Files.{FileChange, free_entry, open_change, close_change, uses_of}

-- a turn: the process that has the processor, the number of steps that it took in the turn, and whether the last was a
-- yield
pub record Turn : Type 0 where
  pub process : Process
  pub made : ℕ
  pub has_yielded : Bool

-- the lists that the processor works on; each semaphore has its sleepers, and births is the number of children started
pub record Lists : Type 0 where
  pub ready : List Process
  pub free_slots : List ℕ
  pub counts : List ℕ
  pub sleepers : List (List Process)
  pub entries : List FileEntry
  pub births : ℕ
  pub is_shut : Bool
  pub ended : List Process
  pub halted : List Process

-- the state between two small steps
pub record State : Type 0 where
  pub running : Option Turn
  pub lists : Lists

-- the step at the position of a process; None at the end of its program
abbrev pub next_step : ScriptOf → Process → Option StepOf
next_step script p = slice_get (steps_of script p.program) p.position

-- a process goes to the back of the ready list, unless that is shut: then it halts
abbrev pub enter_by : Lists → Process → Bool → Lists
enter_by s p false = record s { ready = s.ready ++ p ∷ [] }
enter_by s p true = record s { halted = s.halted ++ p ∷ [] }

-- a process becomes ready, or halts
abbrev pub enter_ready : Lists → Process → Lists
enter_ready s p = enter_by s p s.is_shut

-- the turn goes on after a step with this note
abbrev pub go_on : Lists → Turn → NoteOf → Bool → State
go_on s t note yields = record { running = Some (record { process = after_note t.process note; made = t.made + 1; has_yielded = yields }); lists = s }

-- the turn is over
abbrev pub turn_over : Lists → State
turn_over s = record { running = None; lists = s }

-- down: takes 1 if the count is positive; otherwise the process goes to the back of the sleepers
abbrev pub down_by : Lists → Turn → ℕ → Bool → State
down_by s t n true = go_on (record s { counts = slice_set s.counts n (slice_index s.counts n - 1) }) t (downed n) false
down_by s t n false = turn_over (record s { sleepers = slice_set s.sleepers n (slice_index_or s.sleepers n [] ++ t.process ∷ []) })

-- a down of semaphore n
abbrev pub make_down : Lists → Turn → ℕ → State
make_down s t n = down_by s t n (nat_lt 0 (slice_index s.counts n))

-- up: wakes the first sleeper, whose down is then done; if there is none, adds 1
abbrev pub up_by : Lists → Turn → ℕ → List Process → State
up_by s t n [] = go_on (record s { counts = slice_set s.counts n (slice_index s.counts n + 1) }) t (upped n) false
up_by s t n (first ∷ others) = go_on (enter_ready (record s { sleepers = slice_set s.sleepers n others }) (after_note first (downed n))) t (upped n) false

-- an up of semaphore n
abbrev pub make_up : Lists → Turn → ℕ → State
make_up s t n = up_by s t n (slice_index_or s.sleepers n [])

-- an open with this change of the file table
abbrev pub open_by_change : Lists → Turn → ℕ → FileChange → State
open_by_change s t inode change = go_on (record s { entries = change.entries }) t (opened inode change.entry) false

-- an open of this inode
abbrev pub make_open : Lists → Turn → ℕ → State
make_open s t inode = open_by_change s t inode (open_change s.entries inode)

-- a close with this change of the file table
abbrev pub close_by_change : Lists → Turn → ℕ → FileChange → State
close_by_change s t inode change = go_on (record s { entries = change.entries }) t (closed inode change.entry) false

-- a close of this inode
abbrev pub make_close : Lists → Turn → ℕ → State
make_close s t inode = close_by_change s t inode (close_change s.entries inode)

-- the next child of a process
abbrev pub child_of : Process → ℕ → ℕ → Process
child_of p program slot = new_process (p.name ++ child_count p.journal ∷ []) program slot

-- spawn: takes a birth, then a slot; if no slot is free, gives the birth back
abbrev pub spawn_by : Lists → Turn → ℕ → Bool → List ℕ → State
spawn_by s t program false free = go_on s t no_birth false
spawn_by s t program true [] = go_on s t no_slot false
spawn_by s t program true (slot ∷ free) = go_on (enter_ready (record s { births = s.births + 1; free_slots = free }) (child_of t.process program slot)) t (spawned (child_count t.process.journal)) false

-- a spawn of a child that runs this program
abbrev pub make_spawn : ScriptOf → Lists → Turn → ℕ → State
make_spawn script s t program = spawn_by s t program (nat_lt s.births script.births) s.free_slots

-- the process that has the processor takes this step
abbrev pub make : ScriptOf → Lists → Turn → StepOf → State
make script s t (say text) = go_on s t (said text) false
make script s t yield = go_on s t yielded true
make script s t (down n) = make_down s t n
make script s t (up n) = make_up s t n
make script s t (open_file inode) = make_open s t inode
make script s t (close_file inode) = make_close s t inode
make script s t (stat inode) = go_on s t (statted inode (uses_of s.entries inode)) false
make script s t (spawn program) = make_spawn script s t program
make script s t shutdown = go_on (record s { is_shut = true }) t shut_down false

-- the process ends, and its slot goes to the back of the free ones
abbrev pub end_process : Lists → Process → State
end_process s p = turn_over (record s { ended = s.ended ++ p ∷ []; free_slots = s.free_slots ++ p.slot ∷ [] })

-- if the turn is over, the process becomes ready again; otherwise it takes its next step
abbrev pub go_or_make : ScriptOf → Lists → Turn → StepOf → Bool → State
go_or_make script s t next true = turn_over (enter_ready s t.process)
go_or_make script s t next false = make script s t next

-- at the end of its program the process ends; a turn is over after quantum steps, and after a yield
abbrev pub turn_by : ScriptOf → Lists → Turn → Option StepOf → State
turn_by script s t None = end_process s t.process
turn_by script s t (Some next) = go_or_make script s t next (t.has_yielded || (t.made == script.quantum))

-- the front of the ready list gets the processor
abbrev pub take_front : Lists → List Process → State
take_front s [] = turn_over s
take_front s (first ∷ others) = record { running = Some (record { process = first; made = 0; has_yielded = false }); lists = record s { ready = others } }

-- one small step, by the turn that has the processor
abbrev pub step_by : ScriptOf → Lists → Option Turn → State
step_by script s None = take_front s s.ready
step_by script s (Some t) = turn_by script s t (next_step script t.process)

-- one small step; if nothing is ready and nothing runs, the state stays the same
abbrev pub step : ScriptOf → State → State
step script s = step_by script s.lists s.running

-- this many small steps
abbrev pub steps : ℕ → ScriptOf → State → State
steps zero script s = s
steps (suc n) script s = step script (steps n script s)

-- started process i has the name i and slot i
abbrev pub begun_from : ℕ → List ℕ → List Process
begun_from i [] = []
begun_from i (program ∷ programs) = new_process (i ∷ []) program i ∷ begun_from (i + 1) programs

-- the numbers from i up, this many
abbrev pub numbers_from : ℕ → ℕ → List ℕ
numbers_from i zero = []
numbers_from i (suc n) = i ∷ numbers_from (i + 1) n

-- the started processes are ready, in order; the other slots are free, in order
abbrev pub first_lists : ScriptOf → Lists
first_lists script = record {
  ready = begun_from 0 script.start;
  free_slots = numbers_from (length script.start) (script.slots - length script.start);
  counts = script.semaphores;
  sleepers = map (λ _. []) script.semaphores;
  entries = replicate script.files free_entry;
  births = 0;
  is_shut = false;
  ended = [];
  halted = [];
}

-- the state before the first step
abbrev pub opening : ScriptOf → State
opening script = turn_over (first_lists script)

-- the machine ends with these lists: they are reached from the opening by some number of steps, and then stay the same;
-- there is at most one such end
pub record EndsIn (script : ScriptOf) (lists : Lists) : Type 0 where
  pub count : ℕ
  pub reached : turn_over lists ≡ steps count script (opening script)
  pub still : lists.ready ≡ []
