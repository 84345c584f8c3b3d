-- What callers see of a credit and of its seats, and what calls do to them.
use Rattle.std.specs.Prelude.{ℕ, ◌+◌, ◌≡◌, ◌<◌, ℤ, [], ◌∷◌, length, reverse}
use Rattle.fak_model.specs.declared.credit.CreditKind.{CreditKind}
use Rattle.fak_model.specs.declared.credit.CreditMark.{CreditMark}
use Rattle.fak_model.specs.Credit.{credit_rules, value}
use Rattle.fak_model.specs.Seats.{marks_of}
use Rattle.fak_count.specs.CreditShown.{CreditHolder}
use Rattle.fak_model.specs.Calls.{ObjectId, SeatInfo, seat_info, mine_of, Appends, before_appended}

-- a credit: which object it is, and its start
pub record CreditInfo : Type 0 where
  pub object : ObjectId
  pub start : ℕ

abbrev pub credit_info : ObjectId → ℕ → CreditInfo
credit_info object start = record { object = object; start = start }

abbrev pub seat_of : CreditMark → ℕ
seat_of m = m.seat

-- the number of debits and credits that the seat has performed
abbrev pub calls_made : SeatInfo CreditMark → ℕ
calls_made s = length (mine_of seat_of s)

-- a seat of this object, name and view, with this many calls left of its stint
abbrev pub credit_seat : ObjectId → ℕ → ℕ → CreditHolder → SeatInfo CreditMark
credit_seat object name left me = seat_info object name (left + length (marks_of seat_of name (reverse me.0.seen))) (reverse me.0.seen)

-- a debit or credit within the stint; it returns the value before its mark
pub record MakesCall (kind : CreditKind) (credit : CreditInfo) (old new : SeatInfo CreditMark) (answer : ℤ) : Type 0 where
  pub within : calls_made old < old.stint
  pub appends : Appends credit_rules (record { seat = old.name; kind = kind } ∷ []) old new
  pub answers : answer ≡ value credit.start (before_appended seat_of 0 old new)

-- a call beyond the stint changes nothing
pub record IsWorn (old new : SeatInfo CreditMark) : Type 0 where
  pub spent : calls_made old ≡ old.stint
  pub unchanged : new ≡ old

-- a load, which leaves no mark and returns the value after all that the seat has then seen
pub record Observes (credit : CreditInfo) (old new : SeatInfo CreditMark) (answer : ℤ) : Type 0 where
  pub appends : Appends credit_rules [] old new
  pub answers : answer ≡ value credit.start new.seen
