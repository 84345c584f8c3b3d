-- The phase of a seat of a file table, as its marks show it.
use Rattle.std.specs.Prelude.{ℕ, ◌≡◌, List, [], ◌∷◌, ◌++◌, map}
use Rattle.std.specs.List.{flat_map}
use Rattle.fak_model.specs.declared.file.FileKind.{FileKind}
use Rattle.fak_model.specs.declared.file.FileKind.TheVariants.{Take, Back}
use Rattle.fak_model.specs.Histories.{Owes}
use Rattle.fak_model.specs.File.{Setting, set_mark, WholeCall, kinds_of_call}
use Rattle.fak_files.specs.declared.phase.Access.{Access}
use Rattle.fak_files.specs.declared.phase.Access.TheVariants.{Read, Write}
use Rattle.fak_files.specs.declared.phase.FilePhase.{FilePhase}
use Rattle.fak_files.specs.declared.phase.FilePhase.TheVariants.{Idle, Taking, Backing, Holding}
use Rattle.fak_files.specs.declared.phase.Hold.{Hold}
use Rattle.fak_files.specs.declared.phase.Hold.TheVariants.{Nothing, Reading, Writing}

-- what a hold takes from a count whose full value is k
abbrev pub amount_of : ℕ → Access → ℕ
amount_of k Read = 1
amount_of k Write = k

-- whole calls, and then an open hold in which these fields were set
abbrev pub AreInHold : ℕ → List FileKind → List Setting → Type 0
AreInHold n kinds sets = (calls : List WholeCall) × (kinds ≡ flat_map kinds_of_call calls ++ Take n ∷ map set_mark sets)

-- the kinds of a seat's marks, if it is at this phase
abbrev pub StandsIn : ℕ → List FileKind → FilePhase → Type 0
StandsIn k kinds Idle = Owes kinds_of_call kinds []
StandsIn k kinds (Taking access) = Owes kinds_of_call kinds []
StandsIn k kinds (Backing access) = Owes kinds_of_call kinds (Back (amount_of k access) ∷ [])
StandsIn k kinds (Holding Read) = AreInHold 1 kinds []
StandsIn k kinds (Holding Write) = (sets : List Setting) × AreInHold k kinds sets

-- the phase of a seat that holds this and is not in the middle of a call
abbrev pub phase_of : Hold → FilePhase
phase_of Nothing = Idle
phase_of Reading = Holding Read
phase_of Writing = Holding Write

-- the hold that a call is for
abbrev pub hold_for : Access → Hold
hold_for Read = Reading
hold_for Write = Writing
