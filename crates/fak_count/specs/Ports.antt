-- The refusals of a room's port, and what its calls do.
use Rattle.std.specs.Prelude.{ℕ, ℤ, ◌+◌, ◌≡◌, ◌≤◌}
use Rattle.fak_model.specs.declared.room.RoomKind.TheVariants.{Release}
use Rattle.fak_model.specs.declared.room.RoomMark.{RoomMark}
use Rattle.fak_model.specs.Calls.{SeatInfo}
use Rattle.fak_count.specs.declared.fault.ClaimFault.{ClaimFault}
use Rattle.fak_count.specs.declared.fault.ClaimFault.TheVariants.{BadAmount, Worn, AtBound}
use Rattle.fak_count.specs.declared.fault.TirFault.TheVariants as tir
use Rattle.fak_count.specs.Rooms.{RoomInfo, IsGranted, IsRefused, MakesCall, held_amount}

-- the range of the amounts of claims and releases
abbrev pub IsAmount : ℕ → Type 0
IsAmount d = (1 ≤ d) × (d ≤ 1024)

-- a claim of an amount in range is granted
abbrev pub ClaimsOf : ℕ → RoomInfo → SeatInfo RoomMark → SeatInfo RoomMark → ℤ → Type 0
ClaimsOf d room old new answer = IsAmount d × IsGranted d room old new answer

-- a claim of an amount out of range changes nothing; in range, the room's refusals apply
abbrev pub RefusesClaim : ℕ → RoomInfo → SeatInfo RoomMark → SeatInfo RoomMark → ClaimFault → Type 0
RefusesClaim d room old new BadAmount = (¬ IsAmount d) × (new ≡ old)
RefusesClaim d room old new Worn = IsAmount d × IsRefused d room old new tir.Worn
RefusesClaim d room old new (AtBound value) = IsAmount d × IsRefused d room old new (tir.AtBound value)

-- an amount in range, of what the seat holds, is given back
pub record Releases (d : ℕ) (room : RoomInfo) (old new : SeatInfo RoomMark) (answer : ℤ) : Type 0 where
  pub amount : IsAmount d
  pub makes : MakesCall (Release d) room old new answer
  pub held : held_amount new + d ≡ held_amount old

-- the amount is out of range or more than the seat holds; nothing changes
abbrev pub RefusesRelease : ℕ → SeatInfo RoomMark → SeatInfo RoomMark → Type 0
RefusesRelease d old new = (¬ (IsAmount d × (d ≤ held_amount old))) × (new ≡ old)
