use Rattle.std.proofs.Common.{◌≡◌, ℕ, [], ◌∷◌, arith, inl}
use Rattle.fak_model.specs.Room.{seat_of}
use Rattle.fak_model.specs.Seats.{IsWhole}
use Rattle.fak_callers.proofs.joins.tally_of_only.Goals as goal

-- one name is all names of one seat
whole : (seats name : ℕ) → seats ≡ 1 → name ≡ 0 → IsWhole seats (name ∷ [])
whole seats name one first n low = inl (omega arith)

pub returns : goal.returns
returns c =
    rw c.of.ensures.tally (c.seats_that_join_have_seen_one_history.ensures.whole seat_of _ (c.args.seat.name ∷ []) _ (whole _ _ c.requires.0 c.requires.1) (rw c.of.ensures.tally at c.of.ensures.named 0))
