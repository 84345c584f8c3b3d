-- How many leap years went into the queue and came out of it.
use Rattle.std.specs.Prelude.{ℕ, ◌*◌, ◌≤◌, ◌^◌, ◌≡◌, cond, List, length}
use Rattle.std.specs.List.{sum_by}
use Rattle.fak_model.specs.declared.queue.Mark.{Mark}
use Rattle.fak_model.specs.Calls.{ObjectId, SeatInfo, TallyInfo}
use Rattle.fak_queue.specs.Queues.{IsIdleSeat, QueueInfo}
use Rattle.fak_queue.specs.Sums.{put_by, got_by, AreJoined}
use Rattle.example_workers.specs.declared.work.Work.{Work}
use Rattle.example_workers.specs.declared.work.Work.TheVariants.{Year, Stop}
use Rattle.example_workers.specs.Leap.{is_leap}

-- the leap years in a piece of work
abbrev pub leaps : Work → ℕ
leaps (Year year) = cond (is_leap year) 1 0
leaps Stop = 0

-- an idle seat of the queue, which has put in and got out this many leap years
pub record Stands (object : ObjectId) (put got : ℕ) (s : SeatInfo (Mark Work)) : Type 0 where
  pub idle : IsIdleSeat object s
  pub put_is : put_by leaps s ≡ put
  pub got_is : got_by leaps s ≡ got

-- a seat of a queue that was just opened
pub record IsFresh (object : ObjectId) (s : SeatInfo (Mark Work)) : Type 0 where
  pub stands : Stands object 0 0 s
  pub stint : s.stint ≡ 2 ^ 40

-- the joined seats of this many workers, which have put in no leap year and got out this many
pub record HaveWorked (queue : QueueInfo) (workers got : ℕ) (t : TallyInfo (Mark Work)) : Type 0 where
  pub object : t.object ≡ queue.object
  pub seats : List (SeatInfo (Mark Work))
  pub joined : AreJoined queue.size seats t
  pub many : length seats ≡ workers
  pub put_is : sum_by (put_by leaps) seats ≡ 0
  pub got_is : sum_by (got_by leaps) seats ≡ got
  pub few : got ≤ 2 ^ 40 * workers
