-- What the program replies to an input.
use Rattle.std.specs.Prelude.{◌≡◌, ◌<◌, ◌≤◌, ◌⊎◌, ℕ, ◌++◌, ◌∷◌, [], codes, decimal, length, List, Option, Result, Ok, Err}
use Rattle.std.specs.Io.KnownBytes.{Consumes, IsAtEnd}
use Rattle.fak_model.specs.Checker.{FirstFault}
use Rattle.fak_model.specs.Queue.{IsQueueHistory}
use Rattle.fak_run.specs.ReportText.{ListSchedulerPrints, RunPrints}
use Rattle.fak_run.specs.declared.fault.Fault.TheVariants.{BadProcessors, NoThread, Worn}
use Rattle.fak_text.specs.Script.{ScriptOf}
use Rattle.fak_text.specs.ScriptText.{script_in}
use Rattle.fak_text.specs.HistoryText.{HistoryOf, history_in}
use Rattle.fak_text.specs.Values.{most_bytes}
use Rattle.fak_text.specs.declared.fault.Field.TheVariants.{Input}
use Rattle.fak_text.specs.declared.fault.TextFault.{TextFault}
use Rattle.fak_text.specs.declared.fault.TextFault.TheVariants.{Range}
use Rattle.fak_replay.specs.declared.answer.Answer.{Answer}
use Rattle.fak_replay.specs.declared.command.Command.{Command}
use Rattle.fak_replay.specs.declared.command.Command.TheVariants.{Replay, Check, Run}
use Rattle.fak_replay.specs.declared.fault.MainFault.{MainFault}
use Rattle.fak_replay.specs.declared.fault.MainFault.TheVariants.{Usage, Text, Kernel, Memory, Read, Write}
use Rattle.fak_text.specs.ScheduleText.{ScheduleOf, schedule_in}
use Rattle.fak_replay.specs.Faults.{fault_of}
use Rattle.fak_replay.specs.Replay.{replay_of}

-- a status and a text
abbrev pub Reply : Type 0
Reply = ℕ × List ℕ

abbrev pub reply_of : Answer → Reply
reply_of answer = (answer.status, answer.text.items)

-- the reply of `replay` to what was read: the rows of the replay, with status 0
abbrev pub replay_reply : Result ScheduleOf TextFault → Result Reply MainFault
replay_reply (Ok schedule) = Ok (0, replay_of schedule)
replay_reply (Err fault) = Err (fault_of fault)

-- the verdict on a history: it is legal, or this is its first fault
abbrev pub IsVerdict : HistoryOf → Result Reply MainFault → Type 0
IsVerdict history reply =
    (IsQueueHistory history.size history.marks × (reply ≡ Ok (0, codes "legal" ++ 10 ∷ [])))
    ⊎ ((i : ℕ) × FirstFault history.size history.marks i × (reply ≡ Ok (3, codes "fault at " ++ decimal i ++ 10 ∷ [])))

-- the reply of `check` to what was read
abbrev pub IsCheckReply : Result HistoryOf TextFault → Result Reply MainFault → Type 0
IsCheckReply (Ok history) reply = IsVerdict history reply
IsCheckReply (Err fault) reply = reply ≡ Err (fault_of fault)

-- the reply of `run` on one processor: the list scheduler's report
abbrev pub IsListSchedulerReply : ScriptOf → Result Reply MainFault → Type 0
IsListSchedulerReply script reply = (text : List ℕ) × (status : ℕ) × ListSchedulerPrints script text status × (reply ≡ Ok (status, text))

-- the reply of `run` on 2 to 8 processors: a report that keeps its promises
abbrev pub IsReplyOfSeveral : ScriptOf → Result Reply MainFault → Type 0
IsReplyOfSeveral script reply = (text : List ℕ) × (status : ℕ) × RunPrints script text status × (reply ≡ Ok (status, text))

abbrev pub AreSeveral : ℕ → Type 0
AreSeveral processors = (2 ≤ processors) × (processors ≤ 8)

-- a fault that a run on this many processors may meet, whatever the script: a stint is used up, or the system gave no thread; or
-- there is no such number
abbrev pub IsFaultOfRun : ℕ → MainFault → Type 0
IsFaultOfRun processors fault =
    ((processors ≡ 1) × (fault ≡ Kernel Worn))
    ⊎ ((AreSeveral processors × ((fault ≡ Kernel Worn) ⊎ (fault ≡ Kernel NoThread)))
    ⊎ (((processors ≡ 0) ⊎ (8 < processors)) × (fault ≡ Kernel BadProcessors)))

-- the reply of `run` to the script that was read
abbrev pub IsRunOf : ℕ → ScriptOf → Result Reply MainFault → Type 0
IsRunOf processors script reply =
    ((processors ≡ 1) × IsListSchedulerReply script reply)
    ⊎ ((AreSeveral processors × IsReplyOfSeveral script reply)
    ⊎ ((fault : MainFault) × IsFaultOfRun processors fault × (reply ≡ Err fault)))

-- the reply of `run` to what was read
abbrev pub IsRunReply : ℕ → Result ScriptOf TextFault → Result Reply MainFault → Type 0
IsRunReply processors (Ok script) reply = IsRunOf processors script reply
IsRunReply processors (Err fault) reply = reply ≡ Err (fault_of fault)

-- the reply to a command on an input
abbrev pub IsReply : Command → List ℕ → Result Reply MainFault → Type 0
IsReply Replay input reply = reply ≡ replay_reply (schedule_in input)
IsReply Check input reply = IsCheckReply (history_in input) reply
IsReply (Run processors) input reply = IsRunReply processors (script_in input) reply

-- the fault is one of the replies, unless there was no memory
abbrev pub FailsBy : (Result Reply MainFault → Type 0) → MainFault → Type 0
FailsBy Replies Memory = Unit {0}
FailsBy Replies Read = Replies (Err Read)
FailsBy Replies Write = Replies (Err Write)
FailsBy Replies Usage = Replies (Err Usage)
FailsBy Replies (Text fault) = Replies (Err (Text fault))
FailsBy Replies (Kernel fault) = Replies (Err (Kernel fault))

-- the answer is a reply, or the fault is one, or there was no memory
abbrev pub GivesAnswer : (Result Reply MainFault → Type 0) → Result Answer MainFault → Type 0
GivesAnswer Replies (Ok answer) = Replies (Ok (reply_of answer))
GivesAnswer Replies (Err fault) = FailsBy Replies fault

-- an input that is too long is refused as such, whatever memory there is
abbrev pub RefusesLong : List ℕ → Result Answer MainFault → Type 0
RefusesLong input result = most_bytes < length input → result ≡ Err (Text (Range Input))

-- a reader gave this input, to its end
abbrev pub IsRead : Option (List ℕ) → Option (List ℕ) → List ℕ → Type 0
IsRead old new input = Consumes old new input × IsAtEnd new

-- the fault of serving a command: a device's, or out of memory, or else the command's on the input that was read
abbrev pub FailsToServe : Command → (List ℕ → Type 0) → MainFault → Type 0
FailsToServe command Reads Memory = Unit {0}
FailsToServe command Reads Read = Unit {0}
FailsToServe command Reads Write = Unit {0}
FailsToServe command Reads Usage = (input : List ℕ) × Reads input × IsReply command input (Err Usage)
FailsToServe command Reads (Text fault) = (input : List ℕ) × Reads input × IsReply command input (Err (Text fault))
FailsToServe command Reads (Kernel fault) = (input : List ℕ) × Reads input × IsReply command input (Err (Kernel fault))
