-- Insertions that are tried again if the queue is full, and also if it is shut.
use Rattle.fak_sem.proofs.Common.{◌≡◌, ◌<◌, ℕ, List, ◌∙◌, All, Mark, ObjectId, SeatInfo, drawn_by, state_of, RefusedInsertion, kinds_not_in, InsertsAfterFull, ClosesAfterFull, InsertsAtLast, Idle, IsRetrying, leads, leads_in, left_so_far, refused_again, at_last}

abbrev pub Any : RefusedInsertion → Type 0
Any r = Unit {0}

any_all : (rs : List RefusedInsertion) → All Any rs
any_all rs = λ k d below. tt

-- a seat of this queue that may try again
pub record MayRetry {T : Type 0} (size : ℕ) (queue : ObjectId) (old now : SeatInfo (Mark T)) : Type 0 where
  pub retrying : IsRetrying kinds_not_in Any size queue old now
  pub left : drawn_by now < now.stint

pub closed_again : {T : Type 0} {size : ℕ} {queue : ObjectId} {old mid new : SeatInfo (Mark T)} → MayRetry size queue old mid → drawn_by old < old.stint
    → new.object ≡ mid.object → state_of new ≡ Idle → drawn_by new ≡ drawn_by mid → ClosesAfterFull size mid new → MayRetry size queue old new
closed_again {size = size} b left same idle drawn c =
    let so_far = refused_again kinds_not_in Any size b.retrying.so_far c.closed (leads_in c.closed) c.within drawn tt c.tries (any_all c.tries.refused) in
    record {
      retrying = record { fits = same ∙ b.retrying.fits; same_object = same ∙ b.retrying.same_object; idle = idle; so_far = so_far };
      left = left_so_far kinds_not_in Any size so_far left;
    }

pub inserted_at_last : {T : Type 0} {size k : ℕ} {x : T} {queue : ObjectId} {old mid new : SeatInfo (Mark T)} → MayRetry size queue old mid → InsertsAfterFull size k x mid new → InsertsAtLast size x old new
inserted_at_last {size = size} {k = k} b i = (k, (at_last kinds_not_in Any size b.retrying.so_far (leads _ _) i.tries (any_all i.tries.refused)).tries)
