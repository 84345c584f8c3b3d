-- The faults of a run's processors, as the run has them.
use Rattle.fak_run.specs.declared.fault.Fault.{Fault}
use Rattle.fak_run.specs.declared.fault.Fault.TheVariants as made
use Rattle.fak_processor.specs.Layers.{fault_of_loop}
use Rattle.fak_processor.specs.declared.fault.LoopFault.TheVariants.{Step}
use Rattle.fak_processor.specs.declared.fault.StepFault.TheVariants as step
use Rattle.fak_kernel.specs.declared.fault.StartFault.{StartFault}
use Rattle.fak_kernel.specs.declared.fault.StartFault.TheVariants as start
use Rattle.fak_kernel.specs.declared.fault.RunFault.{RunFault}
use Rattle.fak_kernel.specs.declared.fault.RunFault.TheVariants.{Loop, NoThread}

abbrev pub fault_of_run : RunFault → Fault
fault_of_run (Loop fault) = fault_of_loop fault
fault_of_run NoThread = made.NoThread

abbrev pub fault_of_start : StartFault → RunFault
fault_of_start start.Memory = Loop (Step step.Memory)
fault_of_start start.NoThread = NoThread
