-- What contracts state about the seats and tallies of running objects, and about their calls. Histories have the oldest
-- mark first.
use Rattle.std.specs.Prelude.{ℕ, zero, suc, ◌+◌, ◌≡◌, ◌⊎◌, ◌==◌, cond, List, [], ◌∷◌, ◌++◌, length, Option, Some, None}
use Rattle.atomic_table.specs.Seated.{TableId}
use Rattle.fak_model.specs.Histories.{Rules, IsHistory, AreNamed}
use Rattle.fak_model.specs.Seats.{Begins, Knows, longer_of, marks_of}

-- the identity of a running object: its table, and its number of seats
pub record ObjectId : Type 0 where
  pub table : TableId
  pub seats : ℕ

abbrev pub object_id : TableId → ℕ → ObjectId
object_id table seats = record { table = table; seats = seats }

-- a seat: its object, its name in it, its stint, and the history that it has seen
pub record SeatInfo (M : Type 0) : Type 0 where
  pub object : ObjectId
  pub name : ℕ
  pub stint : ℕ
  pub seen : List M

abbrev pub seat_info : {M : Type 0} → ObjectId → ℕ → ℕ → List M → SeatInfo M
seat_info object name stint seen = record { object = object; name = name; stint = stint; seen = seen }

-- newly opened seats: this many, with the names from `name` on
abbrev pub fresh_seats : {M : Type 0} → ObjectId → ℕ → ℕ → ℕ → List (SeatInfo M)
fresh_seats object stint name zero = []
fresh_seats object stint name (suc n) = seat_info object name stint [] ∷ fresh_seats object stint (suc name) n

-- the marks of the seat itself, in the history that it has seen
abbrev pub mine_of : {M : Type 0} → (M → ℕ) → SeatInfo M → List M
mine_of seat_of s = marks_of seat_of s.name s.seen

abbrev pub last_of : {M : Type 0} → List M → Option M
last_of [] = None
last_of (m ∷ []) = Some m
last_of (m ∷ n ∷ h) = last_of (n ∷ h)

-- a call of a seat: the seat has seen more, its own new marks are exactly these, and the last of them is the last mark
-- that it has seen
pub record Appends {M W C : Type 0} (rules : Rules M W C) (marks : List M) (old new : SeatInfo M) : Type 0 where
  pub same_seat : new ≡ record old { seen = new.seen }
  pub begins : Begins old.seen new.seen
  pub mine : mine_of rules.seat_of new ≡ mine_of rules.seat_of old ++ marks
  pub last : (m : M) → last_of marks ≡ Some m → last_of new.seen ≡ Some m
  pub lawful : IsHistory rules new.seen
  pub named : AreNamed rules new.object.seats new.seen

-- the part of a history before a name's mark of this number, counted from 0
abbrev pub before_mark : {M : Type 0} → (M → ℕ) → ℕ → ℕ → List M → List M
before_mark seat_of name number [] = []
before_mark seat_of name zero (m ∷ h) = cond (seat_of m == name) [] (m ∷ before_mark seat_of name zero h)
before_mark seat_of name (suc number) (m ∷ h) = m ∷ cond (seat_of m == name) (before_mark seat_of name number h) (before_mark seat_of name (suc number) h)

-- the part of a history before the mark of this number, counted from 0, of those that a call appended
abbrev pub before_appended : {M : Type 0} → (M → ℕ) → ℕ → SeatInfo M → SeatInfo M → List M
before_appended seat_of number old new = before_mark seat_of old.name (length (mine_of seat_of old) + number) new.seen

-- joined seats: their object, their names, and the longest history that one of them has seen
pub record TallyInfo (M : Type 0) : Type 0 where
  pub object : ObjectId
  pub names : List ℕ
  pub seen : List M

abbrev pub tally_info : {M : Type 0} → ObjectId → List ℕ → List M → TallyInfo M
tally_info object names seen = record { object = object; names = names; seen = seen }

-- the tally of one seat
abbrev pub tally_of : {M : Type 0} → SeatInfo M → TallyInfo M
tally_of s = tally_info s.object (s.name ∷ []) s.seen

-- a join of a tally and a seat: one of the two histories is a prefix of the other, and the new tally has the longer; in
-- it each name has exactly the marks that its own seat knows
pub record IsJoined {M W C : Type 0} (rules : Rules M W C) (tally : TallyInfo M) (seat : SeatInfo M) (both : TallyInfo M) : Type 0 where
  pub object : both.object ≡ tally.object
  pub names : both.names ≡ tally.names ++ seat.name ∷ []
  pub one_history : Begins tally.seen seat.seen ⊎ Begins seat.seen tally.seen
  pub seen : both.seen ≡ longer_of tally.seen seat.seen
  pub of_tally : Knows rules.seat_of tally.names tally.seen both.seen
  pub of_seat : Knows rules.seat_of (seat.name ∷ []) seat.seen both.seen
  pub lawful : IsHistory rules both.seen
  pub named : AreNamed rules both.object.seats both.seen

-- a join of two tallies, or of a tally and another holder of names: one of the two histories is a prefix of the other;
-- the result has the names of both and the longer history, in which each name has exactly the marks that its seat knows
pub record IsJoinOf {M W C : Type 0} (rules : Rules M W C) (first second both : TallyInfo M) : Type 0 where
  pub object : both.object ≡ first.object
  pub names : both.names ≡ first.names ++ second.names
  pub one_history : Begins first.seen second.seen ⊎ Begins second.seen first.seen
  pub seen : both.seen ≡ longer_of first.seen second.seen
  pub of_first : Knows rules.seat_of first.names first.seen both.seen
  pub of_second : Knows rules.seat_of second.names second.seen both.seen
  pub lawful : IsHistory rules both.seen
  pub named : AreNamed rules both.object.seats both.seen
