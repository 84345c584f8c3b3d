-- What a step of a script asks of a process, and what it does to the processor.
use Rattle.std.specs.Prelude.{◌≡◌, List, [], ◌∷◌, Result, MatchResult}
use Rattle.fak_model.specs.declared.credit.CreditKind.TheVariants.{Credit}
use Rattle.fak_text.specs.Script.{ScriptOf, StepOf}
use Rattle.fak_text.specs.Journal.{Process, StandsAt}
use Rattle.fak_run.specs.Contexts.{HasStepsLeft}
use Rattle.fak_run.specs.Ledger.{nothing}
use Rattle.fak_run.specs.ListScheduler.{Turn}
use Rattle.fak_processor.specs.declared.fault.StepFault.{StepFault}
use Rattle.fak_processor.specs.declared.fault.StepFault.TheVariants.{Worn}
use Rattle.fak_processor.specs.Asking.{looks_of}
use Rattle.fak_processor.specs.Faults.{HasSpentSeat}
use Rattle.fak_processor.specs.Moving.{Gains, Moves}
use Rattle.fak_processor.specs.Processors.{ProcessorOf}

-- the process of the turn is at this step, and the turn has steps left
pub record MayMake (script : ScriptOf) (turn : Turn) (step : StepOf) : Type 0 where
  pub stands : StandsAt script turn.process step
  pub left : HasStepsLeft script turn

-- the processes in hand become others, and the processor does not look at the ready queue
pub record Steps (script : ScriptOf) (before after : List Process) (old new : ProcessorOf) : Type 0 where
  pub moves : Moves script before after old new
  pub looks : looks_of new.ready ≡ looks_of old.ready

-- a call takes such a step; if a seat was worn, one of the processor's seats has used up its stint
abbrev pub MakesStep : {A : Type 0} → ScriptOf → List Process → (A → List Process) → ProcessorOf → ProcessorOf → Result A StepFault → Type 0
MakesStep script before after old new result = MatchResult result (λ x. Steps script before (after x) old new) (λ fault. fault ≡ Worn → HasSpentSeat new)

-- busy was credited, and then the process entered the ready queue
pub record BecomesReady (script : ScriptOf) (who : Process) (old new : ProcessorOf) : Type 0 where
  pub between : ProcessorOf
  pub credited : Gains script old between (record nothing { busy = Credit ∷ [] })
  pub entered : Moves script (who ∷ []) [] between new
  pub looks : looks_of new.ready ≡ looks_of old.ready
