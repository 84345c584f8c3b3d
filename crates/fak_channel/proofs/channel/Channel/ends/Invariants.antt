use Rattle.std.proofs.Common.{◌≡◌, ◌++◌, map}
use Rattle.std.specs.List.{All}
use Rattle.fak_channel.specs.Standings.{IsSeatOf}
use Rattle.fak_channel.proofs.channel.Channel.ends.Given as goal

-- the ends so far have the first of the seats, and the other seats are still to come
abbrev pub invariant-loop-seat : goal.invariant-loop-seat
invariant-loop-seat g l = record {
  seats : map (λ e. e.seat) l.ends.items ++ l.left.rest.items ≡ l.fn.seats.items;
  of : All (λ s. IsSeatOf l.self s) l.left.rest.items;
  channel : All (λ e. e.channel.now ≡ l.self) l.ends.items;
}

abbrev pub decreases-loop-seat : goal.decreases-loop-seat
decreases-loop-seat g l = l.left.rest.len
