-- The faults of a step and of a loop, as the run has them.
use Rattle.fak_run.specs.declared.fault.Fault.{Fault}
use Rattle.fak_run.specs.declared.fault.Fault.TheVariants as run
use Rattle.fak_processor.specs.declared.fault.LoopFault.{LoopFault}
use Rattle.fak_processor.specs.declared.fault.LoopFault.TheVariants.{Step, Gate}
use Rattle.fak_processor.specs.declared.fault.StepFault.{StepFault}
use Rattle.fak_processor.specs.declared.fault.StepFault.TheVariants.{Memory, Worn}

abbrev pub fault_of_step : StepFault → Fault
fault_of_step Memory = run.Memory
fault_of_step Worn = run.Worn

abbrev pub fault_of_loop : LoopFault → Fault
fault_of_loop (Step fault) = fault_of_step fault
fault_of_loop Gate = run.Gate
