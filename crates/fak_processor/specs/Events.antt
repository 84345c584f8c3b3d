-- What each kind of event of a turn adds to a processor's ledger.
use Rattle.std.specs.Prelude.{◌≡◌, ℕ, ◌==◌, cond, Bool, true, false, List, [], ◌∷◌}
use Rattle.fak_model.specs.declared.queue.Kind.{Kind}
use Rattle.fak_model.specs.declared.queue.Kind.TheVariants.{OverIn, BackIn, NoRoom, OverOut, BackOut, NoItem, Close, Closed, LateIn}
use Rattle.fak_model.specs.declared.room.RoomKind.{RoomKind}
use Rattle.fak_model.specs.declared.room.RoomKind.TheVariants.{Up, Over, Back, No, Release}
use Rattle.fak_model.specs.declared.credit.CreditKind.TheVariants.{Debit, Credit}
use Rattle.fak_queue.specs.Queues.{kinds_in, kinds_out}
use Rattle.fak_text.specs.Script.{StepOf, down, up, spawn, shutdown}
use Rattle.fak_text.specs.Journal.{NoteOf, downed, upped, spawned, no_birth, no_slot, shut_down, Process, births_of, child_count}
use Rattle.fak_run.specs.ListScheduler.{child_of}
use Rattle.fak_run.specs.declared.report.Outcome.TheVariants.{Ended, Halted}
use Rattle.fak_run.specs.Report.{RowOf}
use Rattle.fak_run.specs.Ledger.{Ledger, Made, nothing, child, downs_of, ups_of, shuts_of, no_births_of, no_slots_of}

abbrev pub made_of : Process → StepOf → NoteOf → Made
made_of p step note = record { before = p; step = step; note = note }

-- refused insertions and deletions, at the test or at the add
abbrev pub full : {A : Type 0} → Bool → List (Kind A)
full true = OverIn ∷ BackIn ∷ []
full false = NoRoom ∷ []

abbrev pub empty : {A : Type 0} → Bool → List (Kind A)
empty true = OverOut ∷ BackOut ∷ []
empty false = NoItem ∷ []

abbrev pub closed : {A : Type 0} → Bool → List (Kind A)
closed true = LateIn ∷ BackIn ∷ []
closed false = Closed ∷ []

abbrev pub refused_claim : Bool → List RoomKind
refused_claim true = Over 1 ∷ Back 1 ∷ []
refused_claim false = No 1 ∷ []

-- processor 0 puts a slot in, before the threads start
abbrev pub fills : ℕ → ℕ → Ledger
fills k slot = record nothing { free = kinds_in k slot; first = slot ∷ [] }

-- a process is taken off the ready queue, or put there
abbrev pub takes : ℕ → Process → Ledger
takes k p = record nothing { ready = kinds_out k p }

abbrev pub puts : ℕ → Process → Ledger
puts k p = record nothing { ready = kinds_in k p }

-- the ready queue is shut: the process is halted
abbrev pub halts : Bool → Process → Ledger
halts late p = record nothing { ready = closed late; busy = Debit ∷ []; rows = (let r : RowOf = record { process = p; outcome = Halted } in r) ∷ [] }

-- a step that is nobody else's business
abbrev pub steps : Process → StepOf → NoteOf → Ledger
steps p step note = record nothing { made = made_of p step note ∷ [] }

-- a note that counts nowhere
pub record IsPlain (step : StepOf) (note : NoteOf) : Type 0 where
  pub childless : (name : List ℕ) → child name step note ≡ []
  pub births : births_of note ≡ 0
  pub no_births : no_births_of note ≡ 0
  pub no_slots : no_slots_of note ≡ 0
  pub downs : (s : ℕ) → downs_of s note ≡ 0
  pub ups : (s : ℕ) → ups_of s note ≡ 0
  pub shuts : shuts_of note ≡ 0

-- a down passes, or parks the process
abbrev pub passes : ℕ → Process → Ledger
passes s p = record nothing { credits = λ t. cond (s == t) (Debit ∷ []) []; made = made_of p (down s) (downed s) ∷ [] }

abbrev pub parks : ℕ → ℕ → Process → Ledger
parks s k p = record nothing { credits = λ t. cond (s == t) (Debit ∷ []) []; waits = λ t. cond (s == t) (kinds_in k p) []; busy = Debit ∷ [] }

-- an up wakes nobody, or q, whose next step is a down of t
abbrev pub adds : ℕ → Process → Ledger
adds s p = record nothing { credits = λ t. cond (s == t) (Credit ∷ []) []; made = made_of p (up s) (upped s) ∷ [] }

abbrev pub wakes : ℕ → ℕ → Process → Process → ℕ → Ledger
wakes s k p q t = record nothing {
  credits = λ u. cond (s == u) (Credit ∷ []) [];
  waits = λ u. cond (s == u) (kinds_out k q) [];
  busy = Credit ∷ [];
  made = made_of q (down t) (downed t) ∷ made_of p (up s) (upped s) ∷ [];
}

-- a spawn, one with no birth, and one with no slot
abbrev pub spawns : ℕ → Process → ℕ → ℕ → Ledger
spawns k p program slot = record nothing {
  births = Up 1 ∷ [];
  free = kinds_out k slot;
  busy = Credit ∷ [];
  born = child_of p program slot ∷ [];
  made = made_of p (spawn program) (spawned (child_count p.journal)) ∷ [];
}

abbrev pub lacks_birth : Bool → Process → ℕ → Ledger
lacks_birth late p program = record nothing { births = refused_claim late; made = made_of p (spawn program) no_birth ∷ [] }

abbrev pub lacks_slot : Bool → Process → ℕ → Ledger
lacks_slot late p program = record nothing { births = Up 1 ∷ Release 1 ∷ []; free = empty late; made = made_of p (spawn program) no_slot ∷ [] }

-- the process ends, and its slot is put back
abbrev pub ends : ℕ → Process → Ledger
ends k p = record nothing { free = kinds_in k p.slot; busy = Debit ∷ []; rows = (let r : RowOf = record { process = p; outcome = Ended } in r) ∷ [] }

-- calls on a wait queue that were refused
abbrev pub waits_refused : ℕ → List (Kind Process) → Ledger
waits_refused s kinds = record nothing { waits = λ t. cond (s == t) kinds [] }

-- the ready queue is shut by a step
abbrev pub shuts : Process → Ledger
shuts p = record nothing { ready = Close ∷ []; made = made_of p shutdown shut_down ∷ [] }
