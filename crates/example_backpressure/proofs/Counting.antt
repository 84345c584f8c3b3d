-- What the calls of ends and the joins of their seats add, under every weight of buffers.
use Rattle.std.proofs.Common.{◌≡◌, ◌≢◌, ℕ, ◌+◌, arith, [], ap, ◌∙◌, Some, None}
use Rattle.std.specs.List.{sum_by}
use Rattle.fak_model.specs.declared.queue.Mark.{Mark}
use Rattle.fak_model.specs.Queue.{queue_rules, count, contents}
use Rattle.fak_model.specs.Seats.{mine}
use Rattle.fak_model.specs.Calls.{SeatInfo, TallyInfo, tally_of, IsJoined}
use Rattle.fak_model.specs.Weights.{put_of, got_of}
use Rattle.fak_queue.specs.Queues.{seat_of}
use Rattle.fak_queue.specs.Retries.{InsertsAfterFull, DeletesAfterEmpty}
use Rattle.fak_queue.proofs.Weighing as weighing
use Rattle.fak_queue.proofs.Weighing.{Weighs, insertion_weighs, deletion_weighs, pair_weighs}
use Rattle.fak_sem.specs.Semaphores.{SemInfo, SemSeatInfo, queue_part, Downs, Ups}
use Rattle.example_backpressure.specs.declared.channel.Buffer.{Buffer}
use Rattle.example_backpressure.specs.declared.channel.Ends.{Ends}
use Rattle.fak_queue.specs.Sums.{put_by, got_by}
use Rattle.example_backpressure.specs.Passing.{Sum, Moves, nothing, IsFresh, AllOut}

-- ---- ends

module _ (old new : Ends) where
  -- a call only on the queue
  on_queue : (put got : Sum) → Weighs put got old.queue new.queue → new.semaphore ≡ old.semaphore → Moves put got old new
  on_queue put got s same = record {
    name = s.name;
    semaphore_name = ap (λ (g : SemSeatInfo Buffer). g.name) same;
    sent_is = λ w. omega (arith, s.put_is w, ap (λ (g : SemSeatInfo Buffer). put_by w (queue_part g)) same, ap (λ (g : SemSeatInfo Buffer). got_by w (queue_part g)) same);
    received_is = s.got_is;
  }

  pub inserts : {size k : ℕ} {x : Buffer} → InsertsAfterFull size k x old.queue new.queue → new.semaphore ≡ old.semaphore → Moves (λ w. w x) nothing old new
  inserts {x = x} i same = on_queue (λ w. w x) nothing (insertion_weighs i.tries) same

  pub deletes : {size k : ℕ} {x : Buffer} → DeletesAfterEmpty size k x old.queue new.queue → new.semaphore ≡ old.semaphore → Moves nothing (λ w. w x) old new
  deletes {x = x} d same = on_queue nothing (λ w. w x) (deletion_weighs d.tries) same

  -- a down that holds its buffer back
  pub held_back : {sem : SemInfo} {x : Buffer} → Downs sem x old.semaphore new.semaphore None → new.queue ≡ old.queue → Moves (λ w. w x) nothing old new
  held_back {x = x} d same =
      let s : Weighs (λ w. w x) nothing (queue_part old.semaphore) (queue_part new.semaphore) = insertion_weighs d.passes.inserts.1 in record {
        name = ap (λ (q : SeatInfo (Mark Buffer)). q.name) same;
        semaphore_name = s.name;
        sent_is = λ w. omega (arith, s.put_is w, s.got_is w, ap (put_by w) same);
        received_is = λ w. ap (got_by w) same ∙ omega arith;
      }

  same_parts : queue_part new.semaphore ≡ queue_part old.semaphore → new.queue ≡ old.queue → Moves nothing nothing old new
  same_parts part same = record {
    name = ap (λ (q : SeatInfo (Mark Buffer)). q.name) same;
    semaphore_name = ap (λ (q : SeatInfo (Mark Buffer)). q.name) part;
    sent_is = λ w. omega (arith, ap (put_by w) part, ap (got_by w) part, ap (put_by w) same);
    received_is = λ w. ap (got_by w) same ∙ omega arith;
  }

  -- a down that passes, and an up that wakes nobody
  pub passes_semaphore : {sem : SemInfo} {x : Buffer} (y : Buffer) → Downs sem x old.semaphore new.semaphore (Some y) → new.queue ≡ old.queue → Moves nothing nothing old new
  passes_semaphore y d same = same_parts d.passes.1.same_queue same

  pub wakes_nobody : {sem : SemInfo} → Ups sem old.semaphore new.semaphore None → new.queue ≡ old.queue → Moves nothing nothing old new
  wakes_nobody u same = same_parts u.wakes.same_queue same

-- an up that wakes a buffer, which then goes into the queue
pub lets_through : (old mid new : Ends) {sem : SemInfo} (y : Buffer) → Ups sem old.semaphore mid.semaphore (Some y) → mid.queue ≡ old.queue → Moves (λ w. w y) nothing mid new → Moves nothing nothing old new
lets_through old mid new y u same m =
    let s : Weighs nothing (λ w. w y) (queue_part old.semaphore) (queue_part mid.semaphore) = deletion_weighs u.wakes.deletes.1 in record {
      name = m.name ∙ ap (λ (q : SeatInfo (Mark Buffer)). q.name) same;
      semaphore_name = m.semaphore_name ∙ s.name;
      sent_is = λ w. omega (arith, m.sent_is w, s.put_is w, s.got_is w, ap (put_by w) same);
      received_is = λ w. omega (arith, m.received_is w, ap (got_by w) same);
    }

pub moves_then : {a b c : Ends} (s r s' r' all got : Sum) → Moves s r a b → Moves s' r' b c → ((w : Buffer → ℕ) → all w ≡ s w + s' w) → ((w : Buffer → ℕ) → got w ≡ r w + r' w) → Moves all got a c
moves_then s r s' r' all got m n sums gots = record {
  name = n.name ∙ m.name;
  semaphore_name = n.semaphore_name ∙ m.semaphore_name;
  sent_is = λ w. omega (arith, m.sent_is w, n.sent_is w, sums w);
  received_is = λ w. omega (arith, m.received_is w, n.received_is w, gots w);
}

-- ---- tallies

-- with nothing left of a whole history of two seats, what they put in came out
pub all_out : {size : ℕ} (a : SeatInfo (Mark Buffer)) {b : SeatInfo (Mark Buffer)} {t both : TallyInfo (Mark Buffer)} → t ≡ tally_of a → IsJoined (queue_rules size) t b both → b.name ≢ a.name → mine seat_of both.names both.seen ≡ both.seen
    → ((w : Buffer → ℕ) → count (put_of w) both.seen ≡ count (got_of w) both.seen + sum_by w (contents both.seen)) → contents both.seen ≡ [] → AllOut a b
all_out a {both = both} one j apart whole weighs none w =
    omega (arith, pair_weighs (put_of w) a one j apart, pair_weighs (got_of w) a one j apart, weighing.all_out w both whole (weighs w) none)

-- ---- the whole run

-- what fresh ends sent and received
pub passed : (a b a' b' : Ends) (given got : Sum) → IsFresh 1 a → IsFresh 0 b → Moves given nothing a a' → Moves nothing got b b' → AllOut a'.queue b'.queue → AllOut (queue_part a'.semaphore) (queue_part b'.semaphore) → (w : Buffer → ℕ) → got w ≡ given w
passed a b a' b' given got f g m n q h w =
    omega (arith, f.none_put w, f.none_let w, f.none_taken w, g.none_put w, g.none_let w, g.none_taken w, m.sent_is w, m.received_is w, n.sent_is w, n.received_is w, q w, h w)
