-- What is known of the processors of a run when their threads begin, and of what each thread returns.
use Rattle.std.specs.Prelude.{◌≡◌, ◌⊎◌, ℕ, ◌<◌, Bool, true, List, [], ◌∷◌, Option, Some, None, Result, Ok, Err, IfOk, IfErr, IfSome}
use Rattle.fak_text.specs.Script.{ScriptOf}
use Rattle.fak_run.specs.declared.fault.Fault.{Fault}
use Rattle.fak_run.specs.declared.fault.Fault.TheVariants.{NoThread}
use Rattle.fak_processor.specs.Faults.{IsOfLoop}
use Rattle.fak_processor.specs.declared.fault.LoopFault.{LoopFault}
use Rattle.fak_processor.specs.declared.fault.LoopFault.TheVariants.{Gate}
use Rattle.fak_run.specs.Gates.{IsRefused}
use Rattle.fak_run.specs.ListScheduler.{turn_over}
use Rattle.fak_processor.specs.Processors.{ObjectsOf, ProcessorOf, IsReached, lists_of}
use Rattle.fak_processor.specs.Begun.{Between, IsLeftBy}

-- a run on 1 to 8 processors may return this fault
abbrev pub IsOfRun : Bool → Fault → Type 0
IsOfRun refuses fault = IsOfLoop refuses fault ⊎ (fault ≡ NoThread)

-- one of this many processors was refused by a gate that may answer so
pub record OneIsRefused (processors : ℕ) (answers : ℕ → ℕ → Bool → Type 0) : Type 0 where
  pub processor : ℕ
  pub below : processor < processors
  pub refused : IsRefused (answers processor)

-- the fault of the lowest-numbered processor that has one
abbrev pub first_fault : {A : Type 0} → List (Result A LoopFault) → Option LoopFault
first_fault [] = None
first_fault (Ok _ ∷ others) = first_fault others
first_fault (Err fault ∷ others) = Some fault

-- what a thread returns whose processor has left
abbrev pub as_left : {A : Type 0} → A → Result (Option A) LoopFault
as_left x = Ok (Some x)

-- one of this many processors, before its thread begins
pub record HasBegun (script : ScriptOf) (o : ObjectsOf) (processors name : ℕ) (p : ProcessorOf) : Type 0 where
  pub between : Between script o name p
  pub alone : processors ≡ 1 → IsReached script p (turn_over (lists_of script p))

-- it has left; if it was the only one, as the list scheduler ends
pub record HasLeft (script : ScriptOf) (o : ObjectsOf) (processors name : ℕ) (p : ProcessorOf) : Type 0 where
  pub left : IsLeftBy script o name p
  pub alone : processors ≡ 1 → IsReached script p (turn_over (lists_of script p))
  pub still : processors ≡ 1 → (lists_of script p).ready ≡ []

-- what its thread returns
pub record HasReturned (script : ScriptOf) (o : ObjectsOf) (processors : ℕ) (refuses : Bool) (answers : ℕ → ℕ → Bool → Type 0) (name : ℕ) (r : Result (Option ProcessorOf) LoopFault) : Type 0 where
  pub left : IfOk r (λ left. IfSome left (HasLeft script o processors name))
  pub passed : IfOk r (λ left. IfSome left (λ _. answers name 0 true))
  pub refused : IfErr r (λ fault. fault ≡ Gate → (refuses ≡ true) × IsRefused (answers name))
