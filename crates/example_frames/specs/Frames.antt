-- How often each page frame was put into the free list and taken out of it.
use Rattle.std.specs.Prelude.{ℕ, ◌+◌, ◌≡◌, ◌==◌, cond, nat_lt}
use Rattle.fak_model.specs.declared.queue.Mark.{Mark}
use Rattle.fak_model.specs.Calls.{SeatInfo}
use Rattle.fak_queue.specs.Sums.{put_by, got_by}
use Rattle.example_frames.specs.declared.frame.Frame.{Frame}

-- 1 for the frame with this number
abbrev pub is_number : ℕ → Frame → ℕ
is_number n frame = cond (frame.number == n) 1 0

-- 1 for the numbers of the frames of a machine that has this many
abbrev pub one_of : ℕ → ℕ → ℕ
one_of frames n = cond (nat_lt n frames) 1 0

-- no frame
abbrev pub none : ℕ → ℕ
none n = 0

-- the seat put each frame in this much more often than it took it
abbrev pub HasPut : (ℕ → ℕ) → SeatInfo (Mark Frame) → Type 0
HasPut more s = (n : ℕ) → put_by (is_number n) s ≡ got_by (is_number n) s + more n

-- the seat put each frame in as often as it took it, between old and new
abbrev pub Keeps : SeatInfo (Mark Frame) → SeatInfo (Mark Frame) → Type 0
Keeps old new = (n : ℕ) → put_by (is_number n) new + got_by (is_number n) old ≡ got_by (is_number n) new + put_by (is_number n) old
