-- The seats of an opening, and what those of joined workers add up to.
use Rattle.std.proofs.Common.{◌≡◌, ℕ, zero, suc, ◌+◌, ◌^◌, ◌≤◌, arith, [], ◌∷◌, refl, ap, ◌∙◌}
use Rattle.std.specs.List.{All}
use Rattle.std.proofs.lemmas.List.Elements.{All-cons, All-nil}
use Rattle.fak_model.proofs.Common.{sum_by-cons}
use Rattle.fak_model.specs.declared.queue.Mark.{Mark}
use Rattle.fak_model.specs.Queue.{queue_rules}
use Rattle.fak_model.specs.Calls.{ObjectId, SeatInfo, TallyInfo, fresh_seats, seat_info, tally_of, IsJoined}
use Rattle.fak_queue.specs.Queues.{QueueInfo}
use Rattle.fak_queue.specs.Sums.{put_by, got_by, joined_first, joined_next}
use Rattle.example_workers.specs.declared.work.Work.{Work}
use Rattle.example_workers.specs.Counts.{HaveWorked, IsFresh, Stands, leaps}

-- the seats of an opening
pub all_fresh : (object : ObjectId) (name n : ℕ) → All (IsFresh object) (fresh_seats object (2 ^ 40) name n)
all_fresh object name zero = All-nil (IsFresh object)
all_fresh object name (suc n) =
    let fresh : IsFresh object (seat_info object name (2 ^ 40) []) = record { stands = record { idle = (refl, refl); put_is = refl; got_is = refl }; stint = refl } in
    All-cons (IsFresh object) (seat_info object name (2 ^ 40) []) (fresh_seats object (2 ^ 40) (suc name) n) fresh (all_fresh object (suc name) n)

module _ {queue : QueueInfo} {got : ℕ} {s : SeatInfo (Mark Work)} where
  -- one worker
  pub worked_first : {t : TallyInfo (Mark Work)} {workers : ℕ} → Stands queue.object 0 got s → t ≡ tally_of s → got ≤ 2 ^ 40 → workers ≡ 1 → HaveWorked queue workers got t
  worked_first is one few many = record {
    object = ap (λ (t : TallyInfo (Mark Work)). t.object) one ∙ is.idle.0;
    seats = s ∷ [];
    joined = joined_first s one;
    many = omega (arith, many);
    put_is = omega (arith, sum_by-cons (put_by leaps) s [], is.put_is);
    got_is = omega (arith, sum_by-cons (got_by leaps) s [], is.got_is);
    few = omega (arith, few, many);
  }

  -- one worker more
  pub worked_next : {t both : TallyInfo (Mark Work)} {others workers sum : ℕ} → HaveWorked queue others sum t → IsJoined (queue_rules queue.size) t s both → Stands queue.object 0 got s → got ≤ 2 ^ 40 → workers ≡ others + 1
      → HaveWorked queue workers (got + sum) both
  worked_next were j is few many = record {
    object = j.object ∙ were.object;
    seats = s ∷ were.seats;
    joined = joined_next were.joined j;
    many = omega (arith, were.many, many);
    put_is = omega (arith, sum_by-cons (put_by leaps) s were.seats, is.put_is, were.put_is);
    got_is = omega (arith, sum_by-cons (got_by leaps) s were.seats, is.got_is, were.got_is);
    few = omega (arith, few, were.few, many);
  }
