-- What a port of a seat by steps refuses, and what a refusal leaves: the seat as it was.
use Rattle.std.specs.Prelude.{◌≡◌, ◌≢◌}
use Rattle.fak_sem.specs.declared.fault.DownFault.{DownFault}
use Rattle.fak_sem.specs.declared.fault.DownFault.TheVariants as down
use Rattle.fak_sem.specs.declared.fault.UpFault.{UpFault}
use Rattle.fak_sem.specs.declared.fault.UpFault.TheVariants as up
use Rattle.fak_sem.specs.declared.standing.Standing.TheVariants.{Idle}
use Rattle.fak_sem.specs.Standings.{IsParking, IsWaking}
use Rattle.fak_sem.specs.Steps.{StepSeatInfo, IsWornStep}

-- a call of the seat is open, and nothing changes
abbrev pub IsInCall : {T : Type 0} → StepSeatInfo T → StepSeatInfo T → Type 0
IsInCall old new = (old.standing ≢ Idle) × (new ≡ old)

-- no call of the seat is open, its stint is used up, and nothing changes
abbrev pub IsWornIdle : {T : Type 0} → StepSeatInfo T → StepSeatInfo T → Type 0
IsWornIdle old new = (old.standing ≡ Idle) × IsWornStep old new

-- a down is refused, and its item comes back
abbrev pub RefusesDown : {T : Type 0} → T → StepSeatInfo T → StepSeatInfo T → DownFault T → Type 0
RefusesDown who old new (down.InCall item) = (item ≡ who) × IsInCall old new
RefusesDown who old new (down.Worn item) = (item ≡ who) × IsWornIdle old new

-- an up is refused
abbrev pub RefusesUp : {T : Type 0} → StepSeatInfo T → StepSeatInfo T → UpFault → Type 0
RefusesUp old new up.InCall = IsInCall old new
RefusesUp old new up.Worn = IsWornIdle old new

-- no down is open, and nothing changes; or no up, likewise
abbrev pub IsNotParking : {T : Type 0} → StepSeatInfo T → StepSeatInfo T → Type 0
IsNotParking old new = (¬ IsParking old.standing) × (new ≡ old)

abbrev pub IsNotWaking : {T : Type 0} → StepSeatInfo T → StepSeatInfo T → Type 0
IsNotWaking old new = (¬ IsWaking old.standing) × (new ≡ old)
