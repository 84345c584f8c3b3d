-- What the ends have put into a channel and got out of it, under every weight of buffers.
use Rattle.std.specs.Prelude.{ℕ, ◌+◌, ◌^◌, ◌≡◌, List, [], ◌∷◌}
use Rattle.std.specs.List.{sum_by}
use Rattle.fak_model.specs.declared.queue.Mark.{Mark}
use Rattle.fak_model.specs.Calls.{ObjectId, SeatInfo}
use Rattle.fak_queue.specs.Queues.{IsIdleSeat}
use Rattle.fak_queue.specs.Sums.{put_by, got_by}
use Rattle.fak_sem.specs.Semaphores.{SemId, SemSeatInfo, fresh_sem_seats, queue_part}
use Rattle.example_backpressure.specs.declared.channel.Buffer.{Buffer}
use Rattle.example_backpressure.specs.declared.channel.Ends.{Ends}

-- a sum over buffers, for each weight of a buffer
abbrev pub Sum : Type 0
Sum = (Buffer → ℕ) → ℕ

-- what one's ends put into the queue and held back at the semaphore; what they let through the semaphore; what they took out of the queue
abbrev pub put_in : (Buffer → ℕ) → Ends → ℕ
put_in w p = put_by w p.queue + put_by w (queue_part p.semaphore)

abbrev pub let_through : (Buffer → ℕ) → Ends → ℕ
let_through w p = got_by w (queue_part p.semaphore)

abbrev pub taken : (Buffer → ℕ) → Ends → ℕ
taken w p = got_by w p.queue

-- ends of this channel, between two calls
pub record AreEnds (queue : ObjectId) (semaphore : SemId) (p : Ends) : Type 0 where
  pub idle : IsIdleSeat queue p.queue
  pub semaphore_is : p.semaphore.object ≡ semaphore

-- a call of the ends, which sent and received this much
pub record Moves (sent received : Sum) (old new : Ends) : Type 0 where
  pub name : new.queue.name ≡ old.queue.name
  pub semaphore_name : new.semaphore.name ≡ old.semaphore.name
  pub sent_is : (w : Buffer → ℕ) → put_in w new + let_through w old ≡ put_in w old + let_through w new + sent w
  pub received_is : (w : Buffer → ℕ) → taken w new ≡ taken w old + received w

abbrev pub nothing : Sum
nothing w = 0

-- the two seats of a semaphore that was just opened
abbrev pub AreFreshSemaphoreSeats : SemId → SemSeatInfo Buffer → SemSeatInfo Buffer → Type 0
AreFreshSemaphoreSeats semaphore a b = b ∷ a ∷ [] ≡ fresh_sem_seats semaphore (2 ^ 40) 0 2

-- ends that were just opened
pub record IsFresh (name : ℕ) (p : Ends) : Type 0 where
  pub queue_name : p.queue.name ≡ name
  pub semaphore_name : p.semaphore.name ≡ name
  pub none_put : (w : Buffer → ℕ) → put_in w p ≡ 0
  pub none_let : (w : Buffer → ℕ) → let_through w p ≡ 0
  pub none_taken : (w : Buffer → ℕ) → taken w p ≡ 0

-- what two seats of a queue put in, they got out
abbrev pub AllOut : SeatInfo (Mark Buffer) → SeatInfo (Mark Buffer) → Type 0
AllOut a b = (w : Buffer → ℕ) → put_by w a + put_by w b ≡ got_by w a + got_by w b

-- the same buffers, in whatever order
abbrev pub AreSame : List Buffer → List Buffer → Type 0
AreSame xs ys = (w : Buffer → ℕ) → sum_by w xs ≡ sum_by w ys
