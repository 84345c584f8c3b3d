-- What the program says if it has no answer.
use Rattle.std.specs.Prelude.{ℕ}
use Rattle.fak_run.specs.declared.fault.Fault.{Fault}
use Rattle.fak_run.specs.declared.fault.Fault.TheVariants as run
use Rattle.fak_text.specs.declared.fault.TextFault.{TextFault}
use Rattle.fak_text.specs.declared.fault.TextFault.TheVariants as text
use Rattle.fak_replay.specs.declared.fault.MainFault.{MainFault}
use Rattle.fak_replay.specs.declared.fault.MainFault.TheVariants.{Usage, Text, Kernel, Memory, Read, Write}

-- the program's fault if an input can't be read
abbrev pub fault_of : TextFault → MainFault
fault_of text.Memory = Memory
fault_of text.NotJson = Text text.NotJson
fault_of (text.Missing field) = Text (text.Missing field)
fault_of (text.Range field) = Text (text.Range field)
fault_of (text.UnknownOp i) = Text (text.UnknownOp i)

-- the program's fault if a script's run fails
abbrev pub fault_of_run : Fault → MainFault
fault_of_run run.Memory = Memory
fault_of_run run.Worn = Kernel run.Worn
fault_of_run run.Gate = Kernel run.Gate
fault_of_run run.BadProcessors = Kernel run.BadProcessors
fault_of_run run.NoThread = Kernel run.NoThread

-- the exit status: 2 for bad input or usage, 1 for what the program lacked
abbrev pub status_of : MainFault → ℕ
status_of Usage = 2
status_of (Text fault) = 2
status_of (Kernel run.BadProcessors) = 2
status_of (Kernel fault) = 1
status_of Memory = 1
status_of Read = 1
status_of Write = 1
