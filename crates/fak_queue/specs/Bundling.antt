-- How bundles are made of seats, broken up into seats and joined to tallies: what callers see, and what a token whose names all
-- rest is told. Histories have the oldest mark first.
use Rattle.std.specs.Prelude.{◌≡◌, ℕ, ◌+◌, ◌/◌, ◌<◌, ◌≤◌, ◌^◌, List, [], ◌∷◌, ◌++◌, length, map, reverse}
use Rattle.std.specs.List.{All, Contains, sum_by}
use Rattle.atomic_table.specs.Seated.{TableId}
use Rattle.fak_model.specs.declared.queue.Mark.{Mark}
use Rattle.fak_model.specs.declared.queue.Stage.TheVariants as at
use Rattle.fak_model.specs.Calls.{SeatInfo, TallyInfo, tally_info, object_id, IsJoinOf}
use Rattle.fak_model.specs.Histories.{AreNamed}
use Rattle.fak_model.specs.Queue.{queue_rules, IsQueueHistory}
use Rattle.fak_model.specs.QueuePast.{stage}
use Rattle.fak_model.specs.Seats.{In, AreApart, Knows, marks_of}
use Rattle.fak_model.specs.Shown.{Hears}
use Rattle.fak_model.specs.Tokens.{IsSeatToken, IsTallyToken}
use Rattle.fak_core.specs.declared.queue.phase.Phase.TheVariants as phase
use Rattle.fak_queue.specs.declared.bundle.BundleState.TheVariants.{Idle}
use Rattle.fak_queue.specs.declared.fault.BundleFault.{BundleFault}
use Rattle.fak_queue.specs.declared.fault.BundleFault.TheVariants.{NoSeats, Memory}
use Rattle.fak_queue.specs.declared.phases.Phases.TheVariants.{Alike}
use Rattle.fak_queue.specs.declared.state.SeatState.TheVariants as seat
use Rattle.fak_queue.specs.Shown.{QueueHolder, queue_object}
use Rattle.fak_queue.specs.Queues.{drawn_by, seat_of, state_of, tickets_in}
use Rattle.fak_queue.specs.BundleCalls.{BundleInfo, drawn_by_all}

-- ---- what callers see

abbrev pub name_of : {T : Type 0} → SeatInfo (Mark T) → ℕ
name_of s = s.name

abbrev pub stint_of : {T : Type 0} → SeatInfo (Mark T) → ℕ
stint_of s = s.stint

-- the seat has observed a prefix of this history, and no mark of its own lies beyond it
abbrev pub KnowsOwn : {T : Type 0} → List (Mark T) → SeatInfo (Mark T) → Type 0
KnowsOwn h s = Knows seat_of (s.name ∷ []) s.seen h

-- the idle bundle of these seats: their names in their order, their stints together, and the longest history that one of them has
-- seen, in which each name has only the marks of its own seat
pub record IsBundleOf {T : Type 0} (size : ℕ) (seats : List (SeatInfo (Mark T))) (bundle : BundleInfo (Mark T)) : Type 0 where
  pub state : bundle.state ≡ Idle
  pub names : bundle.names ≡ map name_of seats
  pub apart : AreApart bundle.names
  pub stint : bundle.stint ≡ sum_by stint_of seats
  pub seen : (s : SeatInfo (Mark T)) × Contains seats s × (bundle.seen ≡ s.seen)
  pub known : All (KnowsOwn bundle.seen) seats
  pub lawful : IsQueueHistory size bundle.seen
  pub named : AreNamed (queue_rules size) bundle.object.seats bundle.seen

-- Only a call with a seat asks for memory. The seats come back.
abbrev pub IsBundleFault : {T : Type 0} → List (SeatInfo (Mark T)) → BundleFault T → Type 0
IsBundleFault seats NoSeats = seats ≡ []
IsBundleFault seats (Memory back) = (0 < length seats) × (back.items ≡ seats)

-- a seat that was in the bundle: it is idle, and has seen what the bundle has seen
pub record WasIn {T : Type 0} (bundle : BundleInfo (Mark T)) (s : SeatInfo (Mark T)) : Type 0 where
  pub object : s.object ≡ bundle.object
  pub seen : s.seen ≡ bundle.seen
  pub state : state_of s ≡ seat.Idle

-- an equal share of this many tickets among this many seats is left to the seat: one ticket more where they do not come out even
pub record HasShare {T : Type 0} (left many : ℕ) (s : SeatInfo (Mark T)) : Type 0 where
  pub share : ℕ
  pub left_is : share + drawn_by s ≡ s.stint
  pub least : left / many ≤ share
  pub most : share ≤ left / many + 1

-- the seats of a bundle, in its order: no ticket is lost and none is new, and each has an equal share of those that are left
pub record AreSeatsOf {T : Type 0} (bundle : BundleInfo (Mark T)) (seats : List (SeatInfo (Mark T))) : Type 0 where
  pub names : map name_of seats ≡ bundle.names
  pub each : All (WasIn bundle) seats
  pub stint : sum_by stint_of seats ≡ bundle.stint
  pub shares : (left : ℕ) → left + drawn_by_all bundle ≡ bundle.stint → All (HasShare left (length bundle.names)) seats

-- the tally of a bundle's seats
abbrev pub tally_of_bundle : {T : Type 0} → BundleInfo (Mark T) → TallyInfo (Mark T)
tally_of_bundle bundle = tally_info bundle.object bundle.names bundle.seen

-- ---- tokens whose names all rest

-- a load tells such a token what its last join compared, that its names are apart and of the object's seats, that no call of theirs
-- is cut short, and that it has no more tickets than the object
pub record Settles {T : Type 0} (size seats : ℕ) (m after : QueueHolder T) : Type 0 where
  pub heard : Hears (queue_object size seats) m after
  pub apart : AreApart m.0.names
  pub below : (n : ℕ) → In n m.0.names → n < seats
  pub idle : (n : ℕ) → In n m.0.names → stage m.0.seen n ≡ at.Idle
  pub few : m.0.left ≤ 2 ^ 50

-- a token of these names, which all rest, with these tickets left
pub record Rests {T : Type 0} (size seats : ℕ) (names : List ℕ) (left : ℕ) (me : QueueHolder T) : Type 0 where
  pub token : IsTallyToken seat_of seats (Alike phase.Idle) me
  pub names_are : me.0.names ≡ names
  pub left_is : me.0.left ≡ left
  pub apart : AreApart names
  pub below : (n : ℕ) → In n names → n < seats
  pub idle : (n : ℕ) → In n names → stage me.0.seen n ≡ at.Idle
  pub lawful : IsQueueHistory size (reverse me.0.seen)

-- the token of an idle seat, of this object and with these tickets left
pub record IsTokenOfSeat {T : Type 0} (s : SeatInfo (Mark T)) (table : TableId) (seats left : ℕ) (me : QueueHolder T) : Type 0 where
  pub object : s.object ≡ object_id table seats
  pub stint : s.stint ≡ left + tickets_in (marks_of seat_of s.name (reverse me.0.seen))
  pub seen : s.seen ≡ reverse me.0.seen
  pub token : IsSeatToken seat_of seats s.name (Alike phase.Idle) left me
  pub idle : stage me.0.seen s.name ≡ at.Idle
  pub lawful : IsQueueHistory table.slots (reverse me.0.seen)

-- what a token knows, as a tally
abbrev pub tally_in : {T : Type 0} → TableId → ℕ → QueueHolder T → TallyInfo (Mark T)
tally_in table seats me = tally_info (object_id table seats) me.0.names (reverse me.0.seen)

-- the token w was joined to v
pub record JoinsTo {T : Type 0} (size seats : ℕ) (v w after : QueueHolder T) : Type 0 where
  pub rests : Rests size seats (v.0.names ++ w.0.names) (v.0.left + w.0.left) after
  pub few : v.0.left + w.0.left ≤ 2 ^ 50
  pub joined : (table : TableId) → IsJoinOf (queue_rules size) (tally_in table seats v) (tally_in table seats w) (tally_in table seats after)

-- a load after which the token knows the same
pub record StaysAtRest {T : Type 0} (size seats : ℕ) (m after : QueueHolder T) : Type 0 where
  pub rests : Rests size seats m.0.names m.0.left after
  pub seen : after.0.seen ≡ m.0.seen
