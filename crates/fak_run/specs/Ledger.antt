-- What one processor adds to the histories of a run and to its own lists, and which sums of it balance.
use Rattle.std.specs.Prelude.{◌≡◌, ℕ, ◌+◌, ◌<◌, ◌==◌, cond, List, [], ◌∷◌, ◌++◌, length, Option, Some, None}
use Rattle.std.specs.List.{sum_by, All}
use Rattle.fak_model.specs.declared.queue.Kind.{Kind}
use Rattle.fak_model.specs.declared.room.RoomKind.{RoomKind}
use Rattle.fak_model.specs.declared.credit.CreditKind.{CreditKind}
use Rattle.fak_model.specs.Histories.{sum_below}
use Rattle.fak_model.specs.Weights.{put_of, got_of, close_of, closed_of, refusal_of, other_amount}
use Rattle.fak_model.specs.Room.{up_amount, release_amount}
use Rattle.fak_model.specs.Credit.{debit_weight, credit_weight}
use Rattle.fak_text.specs.Script.{ScriptOf, StepOf, down, spawn}
use Rattle.fak_text.specs.Journal.{NoteOf, downed, upped, spawned, no_birth, no_slot, shut_down, Process, births_of, child_count, after_note, StandsAt, Allows, FitsScript}
use Rattle.fak_run.specs.ListScheduler.{next_step}
use Rattle.fak_run.specs.declared.report.Outcome.{Outcome}
use Rattle.fak_run.specs.declared.report.Outcome.TheVariants.{Ended, Stuck, Halted}
use Rattle.fak_run.specs.Report.{RowOf}

-- ---- weights

-- 1 for a note of one kind, else 0
abbrev pub downs_of : ℕ → NoteOf → ℕ
downs_of s (downed t) = cond (t == s) 1 0
downs_of s _ = 0

abbrev pub ups_of : ℕ → NoteOf → ℕ
ups_of s (upped t) = cond (t == s) 1 0
ups_of s _ = 0

abbrev pub shuts_of : NoteOf → ℕ
shuts_of shut_down = 1
shuts_of _ = 0

abbrev pub no_births_of : NoteOf → ℕ
no_births_of no_birth = 1
no_births_of _ = 0

abbrev pub no_slots_of : NoteOf → ℕ
no_slots_of no_slot = 1
no_slots_of _ = 0

-- weights of rows: the slot of a process that ended, and 1 for each outcome
abbrev pub ended_slot : (ℕ → ℕ) → Outcome → ℕ → ℕ
ended_slot g Ended slot = g slot
ended_slot g _ slot = 0

abbrev pub stuck_of : Outcome → ℕ
stuck_of Stuck = 1
stuck_of _ = 0

abbrev pub halted_of : Outcome → ℕ
halted_of Halted = 1
halted_of _ = 0

-- 1 for a process that is not before a down of s
abbrev pub other_down : ℕ → Option StepOf → ℕ
other_down s (Some (down t)) = cond (t == s) 0 1
other_down s _ = 1

abbrev pub not_before : ScriptOf → ℕ → Process → ℕ
not_before script s p = other_down s (next_step script p)

-- 1 for a process that is
abbrev pub its_down : ℕ → Option StepOf → ℕ
its_down s (Some (down t)) = cond (t == s) 1 0
its_down s _ = 0

abbrev pub before_down : ScriptOf → ℕ → Process → ℕ
before_down script s p = its_down s (next_step script p)

-- ---- the steps of a processor

-- a name with its program
abbrev pub NameAndProgram : Type 0
NameAndProgram = List ℕ × ℕ

abbrev pub named : Process → NameAndProgram
named p = (p.name, p.program)

-- the child that a step with this note began, if any
abbrev pub child : List ℕ → StepOf → NoteOf → List NameAndProgram
child name (spawn p) (spawned j) = (name ++ j ∷ [], p) ∷ []
child name _ _ = []

-- a step that a process took, and its note
pub record Made : Type 0 where
  pub before : Process
  pub step : StepOf
  pub note : NoteOf

abbrev pub after_made : Made → Process
after_made m = after_note m.before m.note

-- the process fits the script, and the step is its next one and allows the note
pub record IsMade (script : ScriptOf) (m : Made) : Type 0 where
  pub fits : FitsScript script m.before
  pub stands : StandsAt script m.before m.step
  pub allows : Allows script.files (child_count m.before.journal) m.step m.note

-- what the position of a process must be for this outcome
abbrev pub StandsAs : ScriptOf → Outcome → Process → Type 0
StandsAs script Ended p = next_step script p ≡ None
StandsAs script Stuck p = (semaphore : ℕ) × StandsAt script p (down semaphore)
StandsAs script Halted p = Unit {0}

pub record FitsRow (script : ScriptOf) (r : RowOf) : Type 0 where
  pub process : FitsScript script r.process
  pub stands : StandsAs script r.outcome r.process

-- what a processor added: the kinds of its marks in each history, by object; the slots that it put in first; the
-- processes that it started and the children that it spawned; the steps that it took; and its rows
pub record Ledger : Type 0 where
  pub ready : List (Kind Process)
  pub free : List (Kind ℕ)
  pub births : List RoomKind
  pub busy : List CreditKind
  pub credits : ℕ → List CreditKind
  pub waits : ℕ → List (Kind Process)
  pub first : List ℕ
  pub begun : List Process
  pub born : List Process
  pub made : List Made
  pub rows : List RowOf

abbrev pub nothing : Ledger
nothing = record {
  ready = [];
  free = [];
  births = [];
  busy = [];
  credits = λ s. [];
  waits = λ s. [];
  first = [];
  begun = [];
  born = [];
  made = [];
  rows = [];
}

-- one ledger followed by the other
abbrev pub joined : Ledger → Ledger → Ledger
joined a b = record {
  ready = a.ready ++ b.ready;
  free = a.free ++ b.free;
  births = a.births ++ b.births;
  busy = a.busy ++ b.busy;
  credits = λ s. a.credits s ++ b.credits s;
  waits = λ s. a.waits s ++ b.waits s;
  first = a.first ++ b.first;
  begun = a.begun ++ b.begun;
  born = a.born ++ b.born;
  made = a.made ++ b.made;
  rows = a.rows ++ b.rows;
}

-- the weight of all marks in the wait queues of this many semaphores; and the weight of the notes of these steps
abbrev pub waited : (Kind Process → ℕ) → ℕ → (ℕ → List (Kind Process)) → ℕ
waited w n waits = sum_below (λ s. sum_by w (waits s)) n

abbrev pub noted : (NoteOf → ℕ) → List Made → ℕ
noted w made = sum_by (λ m. w m.note) made

-- the same for the ledger of a processor
abbrev pub waiting : (Kind Process → ℕ) → ℕ → Ledger → ℕ
waiting w n l = waited w n l.waits

abbrev pub notes : (NoteOf → ℕ) → Ledger → ℕ
notes w l = noted w l.made

-- births: an Up for each child and for each spawn that found no slot, and a Release for each of the latter
pub record BalancedBirths (births : List RoomKind) (made : List Made) : Type 0 where
  pub ups : sum_by up_amount births ≡ noted births_of made + noted no_slots_of made
  pub releases : sum_by release_amount births ≡ noted no_slots_of made
  pub refusals : sum_by refusal_of births ≡ noted no_births_of made
  pub ones : sum_by other_amount births ≡ 0

-- busy: a Credit for each process that was woken or spawned, and a Debit for each process that was parked or left
pub record BalancedBusy (n : ℕ) (busy : List CreditKind) (waits : ℕ → List (Kind Process)) (born : List Process) (rows : List RowOf) : Type 0 where
  pub credits : sum_by credit_weight busy ≡ waited (got_of (λ p. 1)) n waits + sum_by (λ p. 1) born
  pub debits : sum_by debit_weight busy ≡ waited (put_of (λ p. 1)) n waits + sum_by (λ r. 1) rows

-- each of n semaphores: a Debit for each down, done or parked, and a Credit for each up; a woken process, taken from
-- any wait queue, does the down that it is before
pub record BalancedSemaphores (script : ScriptOf) (n : ℕ) (credits : ℕ → List CreditKind) (waits : ℕ → List (Kind Process)) (made : List Made) : Type 0 where
  pub downs : (s : ℕ) → s < n → noted (downs_of s) made + sum_by (put_of (λ p. 1)) (waits s) ≡ sum_by debit_weight (credits s) + waited (got_of (before_down script s)) n waits
  pub upped : (s : ℕ) → s < n → noted (ups_of s) made ≡ sum_by credit_weight (credits s)
  pub parked : (s : ℕ) → s < n → sum_by (put_of (not_before script s)) (waits s) ≡ 0

-- a Close for each shutdown, and a Closed for each process that halted; none is left stuck
pub record BalancedShutdown (ready : List (Kind Process)) (made : List Made) (rows : List RowOf) : Type 0 where
  pub shuts : sum_by close_of ready ≡ noted shuts_of made
  pub halts : sum_by (λ r. halted_of r.outcome) rows ≡ sum_by closed_of ready
  pub no_stuck : sum_by (λ r. stuck_of r.outcome) rows ≡ 0

-- the balance of a processor that has the processes `before` in hand at the start and `after` at the end; n is the
-- number of semaphores
pub record Balanced (script : ScriptOf) (n : ℕ) (before after : List Process) (l : Ledger) : Type 0 where
  -- each process that was got, started, spawned or in hand was put, left or is in hand; steps change it
  pub processes : (f : Process → ℕ) →
      sum_by (put_of f) l.ready + waiting (put_of f) n l + sum_by (λ r. f r.process) l.rows + sum_by (λ m. f m.before) l.made + sum_by f after
      ≡ sum_by (got_of f) l.ready + waiting (got_of f) n l + sum_by f l.begun + sum_by f l.born + sum_by (λ m. f (after_made m)) l.made + sum_by f before
  -- each slot that was got belongs to a started or spawned process; each slot put is a first one, or of an ended
  -- process
  pub slots : (g : ℕ → ℕ) →
      sum_by (put_of g) l.free + sum_by (λ p. g p.slot) l.begun + sum_by (λ p. g p.slot) l.born
      ≡ sum_by (got_of g) l.free + sum_by (λ r. ended_slot g r.outcome r.process.slot) l.rows + sum_by g l.first
  -- the spawned processes are those that the notes name
  pub children : (g : NameAndProgram → ℕ) → sum_by (λ p. g (named p)) l.born ≡ sum_by (λ m. sum_by g (child m.before.name m.step m.note)) l.made
  -- the processes that were started or spawned have taken no step
  pub new : sum_by (λ p. length p.journal) l.begun + sum_by (λ p. length p.journal) l.born ≡ 0
  pub births : BalancedBirths l.births l.made
  pub busy : BalancedBusy n l.busy l.waits l.born l.rows
  pub semaphores : BalancedSemaphores script n l.credits l.waits l.made
  pub shutdown : BalancedShutdown l.ready l.made l.rows
  -- what the types ensure
  pub made : All (IsMade script) l.made
  pub rows : All (FitsRow script) l.rows
