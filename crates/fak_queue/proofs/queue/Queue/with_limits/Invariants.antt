use Rattle.fak_queue.proofs.Common.{Alike, ◌≡◌, [], rest_from}
use Rattle.fak_core.specs.declared.queue.phase.Phase.TheVariants.{Idle}
use Rattle.fak_model.specs.Calls.{object_id, fresh_seats}
use Rattle.fak_queue.proofs.queue.Queue.with_limits.Given as goal

-- the seats below this one were dealt
abbrev pub invariant-loop-name : goal.invariant-loop-name
invariant-loop-name g l =
    (l.rest.table_id ≡ l.table.shared.table_id) × (l.rest.me ≡ (rest_from (Alike Idle) l.stint l.name l.seats, []))
    × (l.dealt.items ≡ fresh_seats (object_id l.table.shared.table_id l.seats) l.stint 0 l.name)
