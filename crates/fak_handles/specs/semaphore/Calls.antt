-- Seats of semaphores: what is asked of the library, and what the exported functions return.
use Rattle.std.specs.Prelude.{◌≡◌, ◌≢◌, ◌+◌, ℕ, ℤ, pos, Bool, true, false, Option, Some, None, Result, Ok, Err, IfOk, MatchOption, MatchResult}
use Rattle.std.specs.Arc.{arc_value}
use Rattle.fak_count.specs.Credits.{calls_made}
use Rattle.fak_count.specs.declared.fault.Worn.{Worn}
use Rattle.fak_sem.specs.declared.fault.SemWorn.{SemWorn}
use Rattle.fak_sem.specs.declared.standing.Standing.TheVariants.{Idle}
use Rattle.fak_sem.specs.declared.standing.StepState.{StepState}
use Rattle.fak_sem.specs.declared.standing.StepState.TheVariants as step
use Rattle.fak_sem.specs.Semaphores.{CountsDown, SemSeatInfo, Ups, credit_part}
use Rattle.fak_sem.specs.Standings.{state_in, IsParking, IsWaking}
use Rattle.fak_sem.specs.Steps.{BeginsDown, BeginsUp, ClaimsItemOnce, ClaimsRoomOnce, CountsAsBegun, IsWornStep, ParksOn, ParksSince, SameCredit, StandsAfter, StepsToPark, StepsToWake, WakesSince}
use Rattle.fak_handles.specs.declared.semaphore.seat.SemDesk.{SemDesk}

abbrev pub SameSemaphore : SemDesk → SemDesk → Type 0
SameSemaphore d e = arc_value e.semaphore ≡ arc_value d.semaphore

-- ---- what is asked of the semaphore

abbrev pub IsInCall : SemDesk → SemDesk → Type 0
IsInCall d e = (d.seat.standing ≢ Idle) × (e ≡ d)

abbrev pub IsNotParking : SemDesk → SemDesk → Type 0
IsNotParking d e = (IsParking d.seat.standing → ⊥) × (e ≡ d)

abbrev pub IsNotWaking : SemDesk → SemDesk → Type 0
IsNotWaking d e = (IsWaking d.seat.standing → ⊥) × (e ≡ d)

pub record AsksDown (who : ℕ) (answer : Result (Option ℕ) (SemWorn ℕ)) (d e : SemDesk) : Type 0 where
  pub idle : d.seat.standing ≡ Idle
  pub call : MatchResult answer (BeginsDown (arc_value d.semaphore) who d.seat e.seat) (λ worn. (worn.0 ≡ who) × IsWornStep d.seat e.seat)
  pub claims : IfOk answer (ClaimsRoomOnce (arc_value d.semaphore) who d.seat e.seat)
  pub counts : IfOk answer (CountsDown d.seat.seat e.seat.seat)

pub record AsksUp (answer : Result Bool Worn) (d e : SemDesk) : Type 0 where
  pub idle : d.seat.standing ≡ Idle
  pub call : MatchResult answer (BeginsUp (arc_value d.semaphore) d.seat e.seat) (λ _. IsWornStep d.seat e.seat)
  pub claims : IfOk answer (ClaimsItemOnce (arc_value d.semaphore) d.seat e.seat)
  pub counts : IfOk answer (CountsAsBegun d.seat.seat e.seat.seat)

pub record AsksToPark (done : Bool) (d e : SemDesk) : Type 0 where
  pub parking : IsParking d.seat.standing
  pub stands : StandsAfter e.seat.standing done
  pub credit : SameCredit d.seat e.seat
  pub step : StepsToPark (arc_value d.semaphore) d.seat e.seat done
  pub call : (began : SemSeatInfo ℕ) (who : ℕ) → ParksSince (arc_value d.semaphore) who began d.seat → ParksOn (arc_value d.semaphore) who began e.seat done

pub record AsksToWake (answer : Option ℕ) (d e : SemDesk) : Type 0 where
  pub waking : IsWaking d.seat.standing
  pub stands : MatchOption answer (IsWaking e.seat.standing) (λ _. e.seat.standing ≡ Idle)
  pub credit : SameCredit d.seat e.seat
  pub step : StepsToWake (arc_value d.semaphore) d.seat e.seat answer
  pub call : (began : SemSeatInfo ℕ) → WakesSince (arc_value d.semaphore) began d.seat
      → MatchOption answer (WakesSince (arc_value d.semaphore) began e.seat) (λ woken. Ups (arc_value d.semaphore) began e.seat.seat (Some woken))

-- ---- the results as codes: 10 parks, 11 owes a wake

abbrev pub down_code : Option (Result (Option ℕ) (SemWorn ℕ)) → ℤ
down_code None = pos 7
down_code (Some (Ok (Some x))) = pos 0
down_code (Some (Ok None)) = pos 10
down_code (Some (Err w)) = pos 5

abbrev pub up_code : Option (Result Bool Worn) → ℤ
up_code None = pos 7
up_code (Some (Ok false)) = pos 0
up_code (Some (Ok true)) = pos 11
up_code (Some (Err w)) = pos 5

abbrev pub park_code : Option Bool → ℤ
park_code None = pos 7
park_code (Some true) = pos 0
park_code (Some false) = pos 1

abbrev pub wake_code : Option (Option ℕ) → ℤ
wake_code None = pos 7
wake_code (Some None) = pos 1
wake_code (Some (Some x)) = pos 0

abbrev pub woken_or : ℕ → Option (Option ℕ) → ℕ
woken_or n (Some (Some x)) = x
woken_or n (Some None) = n
woken_or n None = n

abbrev pub step_code : StepState → ℕ
step_code step.Idle = 0
step_code step.Parking = 1
step_code step.Waking = 2

-- ---- the exported functions

pub record ClaimsDown (code : ℤ) (item : ℕ) (d e : SemDesk) : Type 0 where
  pub answer : Option (Result (Option ℕ) (SemWorn ℕ))
  pub code_is : code ≡ down_code answer
  pub call : MatchOption answer (IsInCall d e) (λ r. AsksDown item r d e)

pub record ClaimsUp (code : ℤ) (d e : SemDesk) : Type 0 where
  pub answer : Option (Result Bool Worn)
  pub code_is : code ≡ up_code answer
  pub call : MatchOption answer (IsInCall d e) (λ r. AsksUp r d e)

pub record TriesToPark (code : ℤ) (d e : SemDesk) : Type 0 where
  pub answer : Option Bool
  pub code_is : code ≡ park_code answer
  pub call : MatchOption answer (IsNotParking d e) (λ r. AsksToPark r d e)

pub record TriesToWake (code : ℤ) (before after : ℕ) (d e : SemDesk) : Type 0 where
  pub answer : Option (Option ℕ)
  pub code_is : code ≡ wake_code answer
  pub item_is : after ≡ woken_or before answer
  pub call : MatchOption answer (IsNotWaking d e) (λ r. AsksToWake r d e)

pub record LooksAtSem (code : ℤ) (state left : ℕ) (d e : SemDesk) : Type 0 where
  pub code_is : code ≡ pos 0
  pub same : e ≡ d
  pub state_is : state ≡ step_code (state_in d.seat.standing)
  pub left_is : left + calls_made (credit_part d.seat.seat) ≡ d.seat.seat.stint
