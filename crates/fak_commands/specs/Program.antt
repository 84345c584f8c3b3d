-- What the program leaves when it ends: its exit status, and what it wrote.
use Rattle.std.specs.Prelude.{◌≡◌, ◌≢◌, ◌⊎◌, ℕ, List, Ok}
use Rattle.clap.specs.Words.{Text}
use Rattle.fak_replay.specs.Answers.{FailsToServe, IsReply}
use Rattle.fak_commands.specs.Commands.{Asks, IsOfWords}
use Rattle.fak_replay.specs.Faults.{status_of}
use Rattle.fak_replay.specs.declared.command.Command.{Command}
use Rattle.fak_replay.specs.declared.fault.MainFault.{MainFault}
use Rattle.fak_replay.specs.declared.fault.MainFault.TheVariants.{Write}

-- the words ask for a command, its reply to the input that was read has this status, and its text was written
pub record Answers (words : List Text) (Reads Writes : List ℕ → Type 0) (status : ℕ) : Type 0 where
  pub command : Command
  pub asked : Asks words command
  pub input : List ℕ
  pub read : Reads input
  pub text : List ℕ
  pub reply : IsReply command input (Ok (status, text))
  pub written : Writes text

-- the fault of the words, or that of serving the command that they ask for
abbrev pub FailsOnWords : List Text → (List ℕ → Type 0) → MainFault → Type 0
FailsOnWords words Reads fault = IsOfWords fault ⊎ ((command : Command) × Asks words command × FailsToServe command Reads fault)

-- a fault's exit status, with nothing written on the output unless writing it failed
pub record EndsByFault (words : List Text) (Reads : List ℕ → Type 0) (Kept : Type 0) (status : ℕ) : Type 0 where
  pub fault : MainFault
  pub fails : FailsOnWords words Reads fault
  pub status_is : status ≡ status_of fault
  pub untouched : fault ≢ Write → Kept
