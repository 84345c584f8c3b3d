-- The weights of a line, and what a seat has put in and got out under both.
use Rattle.std.specs.Prelude.{ℕ, ◌≡◌, Bool, List, length, Option, IfSome, IsTrue}
use Rattle.std.specs.List.{sum_by}
use Rattle.std.specs.String.{string_len}
use Rattle.fak_model.specs.declared.queue.Mark.{Mark}
use Rattle.fak_model.specs.Calls.{ObjectId, SeatInfo}
use Rattle.fak_queue.specs.Queues.{IsIdleSeat}
use Rattle.fak_queue.specs.Sums.{put_by, got_by}
use Rattle.example_lines.specs.declared.Line.{Line}

-- the two weights: each line counts as one, and as the bytes of its text
abbrev pub one : Line → ℕ
one line = 1

abbrev pub bytes : Line → ℕ
bytes line = string_len line.text

-- an idle seat of this queue, which has put in and got out this many lines and bytes
pub record Stands (object : ObjectId) (lines_put bytes_put lines_got bytes_got : ℕ) (s : SeatInfo (Mark Line)) : Type 0 where
  pub idle : IsIdleSeat object s
  pub lines_in : put_by one s ≡ lines_put
  pub bytes_in : put_by bytes s ≡ bytes_put
  pub lines_out : got_by one s ≡ lines_got
  pub bytes_out : got_by bytes s ≡ bytes_got

-- the result of a sender: if all went well its seat has put in these lines
pub record Sent (object : ObjectId) (lines : List Line) (s : SeatInfo (Mark Line)) (all : Bool) : Type 0 where
  pub idle : IsIdleSeat object s
  pub sent : IsTrue all → Stands object (length lines) (sum_by bytes lines) 0 0 s

-- the result of a receiver: if all went well its seat has got out what was counted
pub record Received (object : ObjectId) (s : SeatInfo (Mark Line)) (counted : Option (ℕ × ℕ)) : Type 0 where
  pub idle : IsIdleSeat object s
  pub received : IfSome counted (λ r. Stands object 0 0 r.0 r.1 s)
