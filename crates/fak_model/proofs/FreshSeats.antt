-- The seats that an opening hands out, one by one.
use Rattle.fak_model.proofs.Common.{◌≡◌, ℕ, zero, suc, ◌+◌, ◌-◌, ◌<◌, List, ◌∷◌, [], length, refl, ap, sym, ◌∙◌, arith, ObjectId, SeatInfo, seat_info, fresh_seats}

pub length-fresh_seats : (M : Type 0) (object : ObjectId) (stint name n : ℕ) → length (fresh_seats {M = M} object stint name n) ≡ n
length-fresh_seats M object stint name zero = refl
length-fresh_seats M object stint name (suc n) = omega (arith, length-fresh_seats M object stint (suc name) n)

-- the first of the seats from this name on, and the others
pub record IsNextSeat {M : Type 0} (object : ObjectId) (stint name seats : ℕ) (x : SeatInfo M) (rest : List (SeatInfo M)) : Type 0 where
  pub first : x ≡ seat_info object name stint []
  pub others : rest ≡ fresh_seats object stint (name + 1) (seats - (name + 1))

pub next_seat : {M : Type 0} {object : ObjectId} {stint name seats : ℕ} {items rest : List (SeatInfo M)} {x : SeatInfo M} → name < seats → items ≡ fresh_seats object stint name (seats - name) → items ≡ x ∷ rest → IsNextSeat object stint name seats x rest
next_seat {M} {object} {stint} {name} {seats} {items} {rest} {x} below are is =
    let count : seats - name ≡ suc (seats - (name + 1)) = omega (arith, below) in
    let up : suc name ≡ name + 1 = omega arith in
    let all : x ∷ rest ≡ seat_info object name stint [] ∷ fresh_seats object stint (suc name) (seats - (name + 1)) = sym is ∙ (are ∙ ap (fresh_seats {M = M} object stint name) count) in
    record {
      first = cc;
      others = (let r : rest ≡ fresh_seats object stint (suc name) (seats - (name + 1)) = cc in r ∙ ap (λ k. fresh_seats {M = M} object stint k (seats - (name + 1))) up);
    }
