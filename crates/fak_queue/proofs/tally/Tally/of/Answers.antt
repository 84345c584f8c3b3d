use Rattle.fak_queue.proofs.Common.{◌∙◌, token_names, tally_token, seat_of}
use Rattle.fak_queue.proofs.SeatCalls.{idle_token, just_one}
use Rattle.fak_queue.proofs.SeatParts.{seat_is}
use Rattle.fak_queue.proofs.Tallies.{seat_ended, one_idle}
use Rattle.fak_queue.proofs.tally.Tally.of.Goals as goal

pub invariant_of-result : goal.invariant_of-result
invariant_of-result g c =
    let token = idle_token c.parts.invariant (seat_is c.parts.view_is ∙ c.seat.view_is) c.requires in
    record {
      token = tally_token seat_of _ _ _ _ _ token;
      just = just_one c.of.result _ _ (token_names token) c.of.ensures;
      lawful = c.parts.invariant.lawful;
      idle = one_idle _ (token_names token) (seat_ended c.parts.invariant (seat_is c.parts.view_is ∙ c.seat.view_is) c.requires);
    }
