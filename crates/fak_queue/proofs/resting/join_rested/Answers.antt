use Rattle.fak_model.proofs.RunningSeats.{joins}
use Rattle.fak_queue.proofs.Common.{rules, QueueHolder, queue_object, arith, ap, sym, ◌∙◌}
use Rattle.fak_queue.proofs.Settling.{joins_to}
use Rattle.fak_queue.proofs.resting.join_rested.Goals as goal

pub join_seat-requires : goal.join_seat-requires
join_seat-requires g c =
    let t = c.requires.token.table in
    let phases = c.requires.other_rests.0 ∙ sym (ap (λ (x : QueueHolder _). x.0.phase) c.requires.token.phase.me_is) in
    (t.same, c.requires.other, c.requires.other_rests.1, omega (arith, t.words), joins (queue_object c.args.words.now.key.size c.args.words.now.key.seats) _ _ _ _ phases)

pub returns : goal.returns
returns g c = record { same = search rules; told = joins_to c.requires.token.phase c.join_seat.ensures.2 c.settle.ensures.told }
