-- The refusals of a file table's port, and what its calls do.
use Rattle.std.specs.Prelude.{ℕ, ◌≡◌, ◌≢◌, ◌<◌, Bool, true, false}
use Rattle.fak_model.specs.declared.file.FileField.{FileField}
use Rattle.fak_files.specs.declared.fault.FileFault.TheVariants as file
use Rattle.fak_files.specs.declared.fault.HoldFault.{HoldFault}
use Rattle.fak_files.specs.declared.fault.HoldFault.TheVariants.{Holding, Worn, Busy}
use Rattle.fak_files.specs.declared.fault.WaitFault.{WaitFault}
use Rattle.fak_files.specs.declared.fault.WaitFault.TheVariants as wait
use Rattle.fak_files.specs.declared.phase.Access.{Access}
use Rattle.fak_files.specs.declared.phase.Hold.TheVariants.{Nothing, Writing}
use Rattle.fak_files.specs.Calls.{FileTableInfo, FileSeatInfo, IsGranted, IsRefused, IsWaitedFor, IsWorn, IsSet, IsEnded}

-- the seat has a hold, and nothing changes
abbrev pub StaysHolding : FileSeatInfo → FileSeatInfo → Type 0
StaysHolding old new = (old.hold ≢ Nothing) × (new ≡ old)

-- a seat that holds nothing gets a hold, by one attempt or after any number of refused calls
abbrev pub TakesHold : Access → FileSeatInfo → FileSeatInfo → Type 0
TakesHold access old new = (old.hold ≡ Nothing) × IsGranted access old new

abbrev pub WaitsForHold : Access → FileSeatInfo → FileSeatInfo → Type 0
WaitsForHold access old new = (old.hold ≡ Nothing) × IsWaitedFor access old new

-- a hold by one attempt is refused: if the seat has one already, and as the table refuses it
abbrev pub RefusesHold : Access → FileSeatInfo → FileSeatInfo → HoldFault → Type 0
RefusesHold access old new Holding = StaysHolding old new
RefusesHold access old new Worn = (old.hold ≡ Nothing) × IsRefused access old new file.Worn
RefusesHold access old new (Busy count) = (old.hold ≡ Nothing) × IsRefused access old new (file.Busy count)

-- a hold that the port would wait for is refused
abbrev pub RefusesWait : FileSeatInfo → FileSeatInfo → WaitFault → Type 0
RefusesWait old new wait.Holding = StaysHolding old new
RefusesWait old new wait.Worn = (old.hold ≡ Nothing) × IsWorn old new

-- there is no such entry, or the seat holds nothing; nothing changes
abbrev pub MayNotGet : ℕ → FileTableInfo → FileSeatInfo → FileSeatInfo → Type 0
MayNotGet i table old new = (¬ ((old.hold ≢ Nothing) × (i < table.entries))) × (new ≡ old)

-- a field of an entry is set during a writer's hold; otherwise nothing changes
abbrev pub SetsOrNot : ℕ → FileField → ℕ → FileTableInfo → FileSeatInfo → FileSeatInfo → Bool → Type 0
SetsOrNot i field to table old new true = (old.hold ≡ Writing) × (i < table.entries) × IsSet i field to old new
SetsOrNot i field to table old new false = (¬ ((old.hold ≡ Writing) × (i < table.entries))) × (new ≡ old)

-- a hold is given back if there is one; otherwise nothing changes
abbrev pub EndsOrNot : FileSeatInfo → FileSeatInfo → Bool → Type 0
EndsOrNot old new true = (old.hold ≢ Nothing) × IsEnded old new
EndsOrNot old new false = (old.hold ≡ Nothing) × (new ≡ old)

abbrev pub EndsIfHeld : FileSeatInfo → FileSeatInfo → Type 0
EndsIfHeld old new = (ended : Bool) × EndsOrNot old new ended
