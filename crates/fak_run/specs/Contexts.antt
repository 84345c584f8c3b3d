-- What is known of a process of a run, and of a sleeping one.
use Rattle.std.specs.Prelude.{◌≡◌, ℕ, ◌-◌, ◌<◌, ◌≤◌, List, All, length, take, [], slice_index_or}
use Rattle.fak_text.specs.Script.{ScriptOf, down}
use Rattle.fak_text.specs.Journal.{Process, FitsScript, StandsAt, after_note, child_count, downed}
use Rattle.fak_run.specs.ListScheduler.{Turn}

-- the process fits the script, and has this many children
pub record IsContext (script : ScriptOf) (children : ℕ) (process : Process) : Type 0 where
  pub fits : FitsScript script process
  pub children_are : children ≡ child_count process.journal

-- a process without its last note
abbrev pub unnoted : Process → Process
unnoted p = record { name = p.name; program = p.program; slot = p.slot; position = p.position - 1; journal = take (length p.journal - 1) p.journal }

-- a process that already has the note of its down of this semaphore, which is not done yet
pub record IsAsleep (script : ScriptOf) (semaphore : ℕ) (process : Process) : Type 0 where
  pub has_note : process ≡ after_note (unnoted process) (downed semaphore)
  pub before : StandsAt script (unnoted process) (down semaphore)

-- each process that sleeps at a semaphore is before a down of it
abbrev pub WaitAtTheirs : ScriptOf → List (List Process) → Type 0
WaitAtTheirs script sleepers = (n : ℕ) → All (λ p. StandsAt script p (down n)) (slice_index_or sleepers n [])

-- the process that has the processor may take one more step; a turn has at most 1,000
pub record HasStepsLeft (script : ScriptOf) (t : Turn) : Type 0 where
  pub left : t.made < script.quantum
  pub most : script.quantum ≤ 1000
