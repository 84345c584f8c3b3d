-- A bundle grows by one seat at a time.
use Rattle.std.specs.List.{Contains}
use Rattle.std.specs.Prelude.{cond, nat_lt}
use Rattle.std.proofs.lemmas.List.Elements.{All-head, All-tail, All-cons, All-nil, All-push, Contains-append_left, Contains-push}
use Rattle.std.proofs.lemmas.List.Sums.{sum_by_push}
use Rattle.std.proofs.lemmas.List.{map-append}
use Rattle.fak_model.specs.Calls.{ObjectId, object_id, SeatInfo, seat_info, fresh_seats, IsJoinOf}
use Rattle.fak_model.specs.Queue.{queue_rules}
use Rattle.fak_core.specs.declared.queue.phase.Phase.TheVariants as phase
use Rattle.fak_model.specs.Seats.{Begins, Knows, marks_of}
use Rattle.fak_queue.specs.BundleCalls.{queue_bundle, tickets_of_all}
use Rattle.fak_queue.specs.Bundling.{IsBundleOf, KnowsOwn, Rests, JoinsTo, IsTokenOfSeat, name_of, stint_of, tally_in}
use Rattle.fak_queue.specs.declared.bundle.BundleState.TheVariants.{Idle}
use Rattle.fak_queue.specs.Queues.{IsIdleSeat}
use Rattle.fak_queue.specs.declared.state.SeatState.TheVariants as seat
use Rattle.fak_queue.proofs.BurstNames.{begins_trans}
use Rattle.fak_queue.proofs.SeatCalls.{idle_token, idle_phase, state_in, state_shown}
use Rattle.fak_queue.proofs.States.{rests_idle}
use Rattle.fak_queue.proofs.Common.{Alike, QueueHolder, queue_seat, seat_of, state_of, tickets_in, IsQueueSeat, RestsAt, IsQueueHistory, Phase, stage, begins_self, tally_token, token_names, token_left, ◌≡◌, ℕ, zero, suc, ◌+◌, ◌<◌, Bool, true, false, List, [], ◌∷◌, ◌++◌, length, map, append_assoc, append-nil, refl, sym, ap, ◌∙◌, subst, inl, inr, arith, reverse, All, In, sum_by, sum_by-cons, Mark, TableId}

-- ---- what the seats so far are

-- tickets of names whose marks are the same in both
pub same_tickets : {T : Type 0} (names : List ℕ) (h g : List (Mark T)) → ((n : ℕ) → In n names → marks_of seat_of n g ≡ marks_of seat_of n h) → tickets_of_all names g ≡ tickets_of_all names h
same_tickets [] h g same = refl
same_tickets {T} (n ∷ names) h g same =
    let tickets : List (Mark T) → ℕ → ℕ = λ l k. tickets_in (marks_of seat_of k l) in
    let rest = same_tickets names h g (λ k i. same k (inr i)) in
    let here : tickets_in (marks_of seat_of n g) ≡ tickets_in (marks_of seat_of n h) = ap tickets_in (same n (inl refl)) in
    omega (arith, sum_by-cons (tickets g) n names, sum_by-cons (tickets h) n names, rest, here)

-- seats that know a history of all their marks know one that goes on by marks of others
known_on : {T : Type 0} (seats : List (SeatInfo (Mark T))) (h g : List (Mark T)) → Begins h g → ((n : ℕ) → In n (map name_of seats) → marks_of seat_of n g ≡ marks_of seat_of n h) → All (KnowsOwn h) seats → All (KnowsOwn g) seats
known_on [] h g begins same all = All-nil (KnowsOwn g)
known_on {T} (s ∷ seats) h g begins same all =
    let head : KnowsOwn h s = All-head (KnowsOwn h) s seats all in
    let now : KnowsOwn g s = record {
      begins = begins_trans s.seen h g head.begins begins;
      own = λ n i. same n (elim i [ inl e ↦ inl e | inr z ↦ absurd z ]) ∙ head.own n i;
    } in
    All-cons (KnowsOwn g) s seats now (known_on seats h g begins (λ n i. same n (inr i)) (All-tail (KnowsOwn h) s seats all))

-- the seats that were taken so far: their token rests, and is their bundle's
pub record Gathered {T : Type 0} (size seats : ℕ) (table : TableId) (taken : List (SeatInfo (Mark T))) (left : ℕ) (me : QueueHolder T) : Type 0 where
  pub rests : Rests size seats (map name_of taken) left me
  pub made : IsBundleOf size taken (queue_bundle (object_id table seats) (map name_of taken) left Idle me)

-- the seats before those that are left were taken
pub record GatheredOf {T : Type 0} (size seats : ℕ) (table : TableId) (others all : List (SeatInfo (Mark T))) (left : ℕ) (me : QueueHolder T) : Type 0 where
  pub taken : List (SeatInfo (Mark T))
  pub are : taken ++ others ≡ all
  pub idle : All (IsIdleSeat (object_id table seats)) others
  pub so_far : Gathered size seats table taken left me

module _ {T : Type 0} {size seats left more : ℕ} {table : TableId} {taken : List (SeatInfo (Mark T))} {v w after : QueueHolder T} {s : SeatInfo (Mark T)}
    (so_far : Gathered size seats table taken left v) (joins : JoinsTo size seats v w after) (its : IsTokenOfSeat s table seats more w) where
  abbrev pub both : List (SeatInfo (Mark T))
  both = taken ++ s ∷ []

  one : w.0.names ≡ s.name ∷ []
  one = token_names its.token

  names_both : map name_of both ≡ map name_of taken ++ s.name ∷ []
  names_both = map-append name_of taken (s ∷ [])

  names_are : v.0.names ++ w.0.names ≡ map name_of both
  names_are = (λ i. so_far.rests.names_are i ++ one i) ∙ sym names_both

  left_is : v.0.left + w.0.left ≡ left + more
  left_is = omega (arith, so_far.rests.left_is, token_left its.token)

  still : Rests size seats (map name_of both) (left + more) after
  still = subst (λ (x : List ℕ × ℕ). Rests size seats x.0 x.1 after) (λ i. (names_are i, left_is i)) joins.rests

  join : IsJoinOf (queue_rules size) (tally_in table seats v) (tally_in table seats w) (tally_in table seats after)
  join = joins.joined table

  -- the marks of the earlier names stay, and the seat's own come with it
  old_marks : (n : ℕ) → In n (map name_of taken) → marks_of seat_of n (reverse after.0.seen) ≡ marks_of seat_of n (reverse v.0.seen)
  old_marks n i = join.of_first.own n (subst (In n) (sym so_far.rests.names_are) i)

  new_marks : marks_of seat_of s.name (reverse after.0.seen) ≡ marks_of seat_of s.name (reverse w.0.seen)
  new_marks = join.of_second.own s.name (subst (In s.name) (sym one) (inl refl))

  stint : left + more + tickets_of_all (map name_of both) (reverse after.0.seen) ≡ sum_by stint_of both
  stint =
      let h : List (Mark T) = reverse after.0.seen in
      let tickets : ℕ → ℕ = λ n. tickets_in (marks_of seat_of n h) in
      let all : tickets_of_all (map name_of both) h ≡ tickets_of_all (map name_of taken) h + tickets s.name = ap (λ l. tickets_of_all l h) names_both ∙ sum_by_push tickets (map name_of taken) s.name in
      let old : tickets_of_all (map name_of taken) h ≡ tickets_of_all (map name_of taken) (reverse v.0.seen) = same_tickets (map name_of taken) (reverse v.0.seen) h old_marks in
      let new : tickets s.name ≡ tickets_in (marks_of seat_of s.name (reverse w.0.seen)) = ap (λ (l : List (Mark T)). tickets_in l) new_marks in
      let before : left + tickets_of_all (map name_of taken) (reverse v.0.seen) ≡ sum_by stint_of taken = so_far.made.stint in
      omega (arith, all, old, new, before, sum_by_push stint_of taken s, its.stint)

  seen : (x : SeatInfo (Mark T)) × Contains both x × (reverse after.0.seen ≡ x.seen)
  seen = pick (nat_lt (length (reverse v.0.seen)) (length (reverse w.0.seen))) join.seen
    where
      pick : (c : Bool) → reverse after.0.seen ≡ cond c (reverse w.0.seen) (reverse v.0.seen) → (x : SeatInfo (Mark T)) × Contains both x × (reverse after.0.seen ≡ x.seen)
      pick true e = (s, Contains-push taken s, e ∙ sym its.seen)
      pick false e = let one = so_far.made.seen in (one.0, Contains-append_left taken (s ∷ []) one.0 one.1, e ∙ one.2)

  known : All (KnowsOwn (reverse after.0.seen)) both
  known =
      let own : KnowsOwn (reverse after.0.seen) s = subst (λ (x : List ℕ × List (Mark T)). Knows seat_of x.0 x.1 (reverse after.0.seen)) (λ i. (one i, sym its.seen i)) join.of_second in
      All-push (KnowsOwn (reverse after.0.seen)) taken s (known_on taken (reverse v.0.seen) (reverse after.0.seen) join.of_first.begins old_marks so_far.made.known) own

  pub gathers : Gathered size seats table both (left + more) after
  gathers = record {
    rests = still;
    made = record { state = refl; names = refl; apart = still.apart; stint = stint; seen = seen; known = known; lawful = still.lawful; named = still.token.named };
  }

-- ---- one seat

-- a seat's token belongs to its object
pub token_fits : {T : Type 0} {s : SeatInfo (Mark T)} {table mine : TableId} {seats own left : ℕ} {m : QueueHolder T} → IsTokenOfSeat s mine own left m → s.object ≡ object_id table seats → (mine ≡ table) × (own ≡ seats) × IsTokenOfSeat s table seats left m
token_fits {T} {s} {table} {mine} {seats} {own} {left} {m} its fits =
    let same : object_id mine own ≡ object_id table seats = sym its.object ∙ fits in
    (ap (λ (o : ObjectId). o.table) same, ap (λ (o : ObjectId). o.seats) same, subst (λ (o : ObjectId). IsTokenOfSeat s o.table o.seats left m) same its)

-- the token of only one seat
pub gathered_one : {T : Type 0} {s : SeatInfo (Mark T)} {table : TableId} {seats left : ℕ} {m : QueueHolder T} → IsTokenOfSeat s table seats left m → Gathered table.slots seats table (s ∷ []) left m
gathered_one {T} {s} {table} {seats} {left} {m} its =
    let h : List (Mark T) = reverse m.0.seen in
    let tickets : ℕ → ℕ = λ n. tickets_in (marks_of seat_of n h) in
    let itself : (n : ℕ) → In n (s.name ∷ []) → n ≡ s.name = λ n i. elim i [ inl e ↦ e | inr z ↦ absurd z ] in
    let knows : KnowsOwn h s = record { begins = subst (λ (l : List (Mark T)). Begins l h) (sym its.seen) (begins_self h); own = λ n i. ap (marks_of seat_of n) (sym its.seen) } in
    let rests : Rests table.slots seats (map name_of (s ∷ [])) left m = record {
      token = tally_token seat_of seats s.name left (Alike phase.Idle) m its.token;
      names_are = token_names its.token;
      left_is = token_left its.token;
      apart = ((λ i. i), tt);
      below = λ n i. subst (λ k. k < seats) (sym (itself n i)) its.token.below;
      idle = λ n i. ap (stage m.0.seen) (itself n i) ∙ its.idle;
      lawful = its.lawful;
    } in
    record {
      rests = rests;
      made = record {
        state = refl;
        names = refl;
        apart = rests.apart;
        stint = omega (arith, sum_by-cons tickets s.name [], sum_by-cons stint_of s [], its.stint);
        seen = (s, Contains-push [] s, sym its.seen);
        known = All-cons (KnowsOwn h) s [] knows (All-nil (KnowsOwn h));
        lawful = its.lawful;
        named = its.token.named;
      };
    }

-- the token of an idle seat
pub token_of_seat : {T : Type 0} {size seats name left : ℕ} {p : Phase T} {table : TableId} {m : QueueHolder T} {s : SeatInfo (Mark T)} → table.slots ≡ size
    → IsQueueSeat size seats name p left m → queue_seat (object_id table seats) name left m ≡ s → state_of s ≡ seat.Idle → IsTokenOfSeat s table seats left m
token_of_seat {T} {size} {seats} {name} {left} {p} {table} {m} {s} slots f seat_is e =
    let shown : state_of (queue_seat (object_id table seats) name left m) ≡ state_in p = state_shown (object_id table seats) name left m p f.rests in
    let rests : p ≡ phase.Idle = idle_phase f.rests (sym shown ∙ (ap state_of seat_is ∙ e)) in
    let here : IsTokenOfSeat (queue_seat (object_id table seats) name left m) table seats left m = record {
      object = refl;
      stint = refl;
      seen = refl;
      token = idle_token f seat_is e;
      idle = rests_idle (subst (λ (q : Phase T). RestsAt q (stage m.0.seen name)) rests f.rests);
      lawful = subst (λ k. IsQueueHistory k (reverse m.0.seen)) (sym slots) f.lawful;
    } in
    subst (λ (x : SeatInfo (Mark T)). IsTokenOfSeat x table seats left m) seat_is here

-- ---- one after the other

-- the first of all is taken
pub gathers_first : {T : Type 0} {s : SeatInfo (Mark T)} {table mine : TableId} {seats own left : ℕ} {m : QueueHolder T} (others all : List (SeatInfo (Mark T))) → all ≡ s ∷ others → All (IsIdleSeat (object_id table seats)) all → IsTokenOfSeat s mine own left m
    → GatheredOf table.slots seats table others all left m
gathers_first {T} {s} {table} {mine} {seats} {own} {left} {m} others all are idle its =
    let now : All (IsIdleSeat (object_id table seats)) (s ∷ others) = subst (All (IsIdleSeat (object_id table seats))) are idle in
    record {
      taken = s ∷ [];
      are = sym are;
      idle = All-tail (IsIdleSeat (object_id table seats)) s others now;
      so_far = gathered_one (token_fits its (All-head (IsIdleSeat (object_id table seats)) s others now).0).2;
    }

-- the seat of this list is idle, and of the object
pub one_idle : {T : Type 0} {s : SeatInfo (Mark T)} {object : ObjectId} (others all : List (SeatInfo (Mark T))) → all ≡ s ∷ others → All (IsIdleSeat object) all → IsIdleSeat object s
one_idle {s = s} {object = object} others all are idle = All-head (IsIdleSeat object) s others (subst (All (IsIdleSeat object)) are idle)

-- the next one is taken
pub gathers_next : {T : Type 0} {s : SeatInfo (Mark T)} {table : TableId} {size seats left more : ℕ} {v w after : QueueHolder T} (others rest all : List (SeatInfo (Mark T))) → GatheredOf size seats table others all left v → others ≡ s ∷ rest → IsTokenOfSeat s table seats more w → JoinsTo size seats v w after
    → GatheredOf size seats table rest all (left + more) after
gathers_next {T} {s} {table} {size} {seats} {left} {more} {v} {w} {after} others rest all g are its joins = record {
  taken = g.taken ++ s ∷ [];
  are = append_assoc g.taken (s ∷ []) rest ∙ (ap (λ l. g.taken ++ l) (sym are) ∙ g.are);
  idle = All-tail (IsIdleSeat (object_id table seats)) s rest (subst (All (IsIdleSeat (object_id table seats))) are g.idle);
  so_far = gathers g.so_far joins its;
}

-- all are taken
pub gathers_all : {T : Type 0} {table : TableId} {size seats left : ℕ} {m : QueueHolder T} (others all : List (SeatInfo (Mark T))) → GatheredOf size seats table others all left m → others ≡ [] → Gathered size seats table all left m
gathers_all {T} {table} {size} {seats} {left} {m} others all g none =
    let are : g.taken ≡ all = sym (append-nil g.taken) ∙ (ap (λ l. g.taken ++ l) (sym none) ∙ g.are) in
    subst (λ l. Gathered size seats table l left m) are g.so_far

-- the seats of an opening are idle
pub fresh_idle : {T : Type 0} (object : ObjectId) (stint name count : ℕ) → All (IsIdleSeat object) (fresh_seats {M = Mark T} object stint name count)
fresh_idle object each name zero = All-nil (IsIdleSeat object)
fresh_idle {T} object each name (suc count) =
    All-cons (IsIdleSeat object) (seat_info object name each []) (fresh_seats {M = Mark T} object each (suc name) count) (refl, refl) (fresh_idle {T = T} object each (suc name) count)
