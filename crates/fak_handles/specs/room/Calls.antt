-- Seats of rooms: what is asked of the library, and what the exported functions return.
use Rattle.std.specs.Prelude.{◌≡◌, ◌+◌, ◌≤◌, ℕ, ℤ, pos, Option, Some, None, Result, Ok, Err, MatchOption, MatchResult}
use Rattle.std.specs.Arc.{arc_value}
use Rattle.fak_model.specs.declared.room.RoomKind.TheVariants.{Release}
use Rattle.fak_count.specs.declared.fault.TirFault.{TirFault}
use Rattle.fak_count.specs.declared.fault.TirFault.TheVariants as tir
use Rattle.fak_count.specs.Rooms as rooms
use Rattle.fak_count.specs.Rooms.{held_amount, granted_claims}
use Rattle.fak_handles.specs.declared.room.seat.RoomDesk.{RoomDesk}

abbrev pub SameRoom : RoomDesk → RoomDesk → Type 0
SameRoom d e = arc_value e.room ≡ arc_value d.room

abbrev pub IsAmount : ℕ → Type 0
IsAmount d = (1 ≤ d) × (d ≤ 1024)

-- the amount is out of range, and nothing has changed
abbrev pub IsBadAmount : ℕ → RoomDesk → RoomDesk → Type 0
IsBadAmount amount d e = (IsAmount amount → ⊥) × (e ≡ d)

-- the amount is out of range, or more than the seat holds
abbrev pub IsBadRelease : ℕ → RoomDesk → RoomDesk → Type 0
IsBadRelease amount d e = (IsAmount amount × (amount ≤ held_amount d.seat) → ⊥) × (e ≡ d)

abbrev pub AsksRoom : ℕ → Result ℤ TirFault → RoomDesk → RoomDesk → Type 0
AsksRoom amount answer d e = MatchResult answer (rooms.IsGranted amount (arc_value d.room) d.seat e.seat) (rooms.IsRefused amount (arc_value d.room) d.seat e.seat)

abbrev pub tir_code : Option (Result ℤ TirFault) → ℤ
tir_code None = pos 8
tir_code (Some (Ok v)) = pos 0
tir_code (Some (Err (tir.AtBound v))) = pos 2
tir_code (Some (Err tir.Worn)) = pos 5

abbrev pub found_or : ℤ → Option (Result ℤ TirFault) → ℤ
found_or n (Some (Ok v)) = v
found_or n (Some (Err (tir.AtBound v))) = v
found_or n (Some (Err tir.Worn)) = n
found_or n None = n

abbrev pub release_code : Option ℤ → ℤ
release_code (Some v) = pos 0
release_code None = pos 8

abbrev pub value_or : ℤ → Option ℤ → ℤ
value_or n (Some v) = v
value_or n None = n

pub record TriesRoom (code : ℤ) (amount : ℕ) (before after : ℤ) (d e : RoomDesk) : Type 0 where
  pub answer : Option (Result ℤ TirFault)
  pub code_is : code ≡ tir_code answer
  pub found_is : after ≡ found_or before answer
  pub call : MatchOption answer (IsBadAmount amount d e) (λ r. AsksRoom amount r d e)

pub record Releases (code : ℤ) (amount : ℕ) (before after : ℤ) (d e : RoomDesk) : Type 0 where
  pub answer : Option ℤ
  pub code_is : code ≡ release_code answer
  pub found_is : after ≡ value_or before answer
  pub call : MatchOption answer (IsBadRelease amount d e) (rooms.MakesCall (Release amount) (arc_value d.room) d.seat e.seat)

pub record LooksAtRoom (code : ℤ) (held left : ℕ) (d e : RoomDesk) : Type 0 where
  pub code_is : code ≡ pos 0
  pub same : e ≡ d
  pub held_is : held ≡ held_amount d.seat
  pub left_is : left + granted_claims d.seat ≡ d.seat.stint
