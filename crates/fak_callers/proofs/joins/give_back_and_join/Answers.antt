use Rattle.std.proofs.Common.{◌++◌, List, ap, sym, ◌∙◌, append_assoc}
use Rattle.fak_model.specs.declared.room.RoomMark.{RoomMark}
use Rattle.fak_model.specs.Seats.{Begins}
use Rattle.fak_callers.proofs.joins.give_back_and_join.Goals as goal

-- what begins a beginning begins the whole
through : (s t h : List RoomMark) → Begins s t → Begins t h → Begins s h
through s t h first second = (first.0 ++ second.0, sym (append_assoc s first.0 second.0) ∙ (ap (λ (l : List RoomMark). l ++ second.0) first.1 ∙ second.1))

pub returns-clause-one : goal.returns-clause-one
returns-clause-one c =
    let both = c.join.ensures.joined in
    let later = rw c.of.ensures.tally at both.of_tally.begins in
    c.seats_that_join_have_seen_one_history.ensures.one _ _ _ (through _ _ _ c.release.ensures.call.appends.begins later) both.of_seat.begins
