use Rattle.fak_queue.proofs.Common.{◌≡◌, TurnOut, Named}
use Rattle.fak_queue.proofs.Looking.{HasWaited}
use Rattle.fak_queue.proofs.turns.empty_later.Given as goal

-- the seat was turned away each time
abbrev pub invariant-loop : goal.invariant-loop
invariant-loop g l = (l.token.table_id ≡ l.initial.token.table_id) × Named l.initial.token.me (λ n. HasWaited l.words.table_id.slots l.words.key.seats n (TurnOut l.place.ticket) l.initial.token.me l.token.me)
