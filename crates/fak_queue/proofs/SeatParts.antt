-- The parts of a seat, as the seat's callers see them.
use Rattle.fak_queue.specs.SeatParts.{PartsInfo}
use Rattle.fak_queue.proofs.Common.{◌≡◌, ap}

module _ {T : Type 0} {a b : PartsInfo T} (is : a ≡ b) where
  pub seat_is : a.seat ≡ b.seat
  seat_is = ap (λ (z : PartsInfo T). z.seat) is

  pub noted_is : a.noted ≡ b.noted
  noted_is = ap (λ (z : PartsInfo T). z.noted) is
