-- How joins and closes keep the invariant of a tally.
use Rattle.fak_sem.proofs.Common.{◌≡◌, ◌≢◌, ℕ, ◌+◌, ◌<◌, ◌==◌, true, false, List, [], ◌∷◌, ◌++◌, length-drop, refl, ap, sym, ◌∙◌, subst, arith, inl, inr, All, flat_map, append-nil, CreditKind, CreditMark, Mark, in_either, seat_of, weight_from, parks, wakes, of_all, downs_parked_by, ups_waking_by, IsMatched, IsSettled, SemId, SemTallyInfo, seats_of, IsSemSeat, IsSemTally, sem_tally, Kind, sum_none, sum_one, sum_same, granted_is, items_count, common_steps}
use Rattle.fak_model.proofs.Common.{nat_tests, All-head, All-tail, IsAtRest, seat_words, sum_below, credit_rules, count, puts, gots, items_put, queue_rules, In, IsWhole, Knows, marks_of, ObjectId, SeatInfo, TallyInfo, IsJoined}
use Rattle.fak_sem.proofs.Weights.{weight-known, weights-names, grants-parts, debits-parts}

-- whether a name's downs and ups match its marks in the wait queue depends only on its own marks
matched_known : {T : Type 0} {start name : ℕ} {credit_names queue_names : List ℕ} {s s' : List CreditMark} {q q' : List (Mark T)} → Knows (λ (m : CreditMark). m.seat) credit_names s s' → Knows (λ (m : Mark T). m.seat) queue_names q q'
    → In name credit_names → In name queue_names → IsMatched start name s q → IsMatched start name s' q'
matched_known {T} {start} {name} {credit_names} {queue_names} {s} {s'} k l i j m = record {
  parked = ap (count puts) (l.own name j) ∙ (m.parked ∙ sym (weight-known name parks start credit_names s s' k i));
  woken = ap (count gots) (l.own name j) ∙ (m.woken ∙ sym (weight-known name wakes start credit_names s s' k i));
}

-- a tally and a seat of one semaphore, and the two parts of their join
pub tally_joined : {T : Type 0} {start seat_start size : ℕ} {credit_tally credit' : TallyInfo CreditMark} {queue_tally queue' : TallyInfo (Mark T)} {credit_seat : SeatInfo CreditMark} {queue_seat : SeatInfo (Mark T)}
    → IsSemTally start credit_tally queue_tally → IsSemSeat seat_start credit_seat queue_seat → seat_start ≡ start
    → IsJoined credit_rules credit_tally credit_seat credit' → IsJoined (queue_rules size) queue_tally queue_seat queue' → IsSemTally start credit' queue'
tally_joined {T} {start} {seat_start} {size} {credit_tally} {credit'} {queue_tally} {queue'} {credit_seat} {queue_seat} t s same j l = record {
  seats = ap (λ (o : ObjectId). o.seats) l.object ∙ (t.seats ∙ ap (λ (o : ObjectId). o.seats) (sym j.object));
  names = l.names ∙ ((λ i. t.names i ++ s.name i ∷ []) ∙ sym j.names);
  credit_named = j.named;
  queue_named = l.named;
  matched = λ name i. elim (in_either name credit_tally.names (credit_seat.name ∷ []) (subst (In name) j.names i)) [
    | inl of_tally ↦ matched_known j.of_tally l.of_tally of_tally (subst (In name) (sym t.names) of_tally) (t.matched name of_tally)
    | inr of_seat ↦ matched_known j.of_seat l.of_seat of_seat (subst (λ (n : ℕ). In name (n ∷ [])) (sym s.name) of_seat)
        (subst (λ (x : ℕ × ℕ). IsMatched x.0 x.1 credit_seat.seen queue_seat.seen) (λ i. (same i, sym (his name of_seat) i)) s.matched)
  ];
}
  where
    his : (name : ℕ) → In name (credit_seat.name ∷ []) → name ≡ credit_seat.name
    his name f = grind (arith, common_steps)

-- ---- a whole tally

-- if the names of a tally of this semaphore are whole, so are those of its credit part
pub tally_whole : {T : Type 0} {start : ℕ} {credit : TallyInfo CreditMark} (queue : TallyInfo (Mark T)) {tally : SemTallyInfo T} {object : SemId} → sem_tally start credit queue ≡ tally → tally.object ≡ object
    → IsWhole (seats_of object) tally.names → IsWhole credit.object.seats credit.names
tally_whole {T} queue tally_is fits whole =
    subst (λ (x : ℕ × List ℕ). IsWhole x.0 x.1) (λ i. ((ap seats_of (sym fits) ∙ ap (λ (t : SemTallyInfo T). seats_of t.object) (sym tally_is)) i, ap (λ (t : SemTallyInfo T). t.names) (sym tally_is) i)) whole

-- what the parts of a tally settle, the tally settles
pub tally_settled : {T : Type 0} {start : ℕ} {credit : TallyInfo CreditMark} (queue : TallyInfo (Mark T)) {tally : SemTallyInfo T} {object : SemId} → sem_tally start credit queue ≡ tally → tally.object ≡ object
    → IsSettled start credit.seen queue.seen → IsSettled object.start tally.credit_seen tally.queue_seen
tally_settled {T} queue {tally = tally} tally_is fits is = grind (arith, common_steps)

-- the marks of all names are all marks
count-names : {T : Type 0} (w : Kind T → ℕ) (seats : ℕ) (h : List (Mark T)) → All (λ (m : Mark T). m.seat < seats) h → sum_below (λ name. count w (marks_of seat_of name h)) seats ≡ count w h
count-names w seats [] named = sum_none (λ name. 0) seats (λ name. refl)
count-names {T} w seats (m ∷ h) named =
    let old : ℕ → ℕ = λ (k : ℕ). count w (marks_of seat_of k h) in
    let new : ℕ → ℕ = λ (k : ℕ). count w (marks_of seat_of k (m ∷ h)) in
    let at : ℕ = m.seat in
    let here : new at ≡ w m.kind + old at = (let t : (m.seat == at) ≡ true = grind (arith, nat_tests) in rw t refl) in
    let other : (k : ℕ) → k ≢ at → new k ≡ old k = λ k d. (let t : (m.seat == k) ≡ false = grind (arith, nat_tests) in rw t refl) in
    let one = sum_one old new at seats (All-head (λ (x : Mark T). x.seat < seats) m h named) other in
    let rest = count-names w seats h (All-tail (λ (x : Mark T). x.seat < seats) m h named) in
    omega (arith, one, here, rest)

module _ {T : Type 0} {start : ℕ} {credit : TallyInfo CreditMark} {queue : TallyInfo (Mark T)} (t : IsSemTally start credit queue) where
  -- names that are whole for the wait queue are whole for the credit, and vice versa
  pub whole_credit : IsWhole queue.object.seats queue.names → IsWhole credit.object.seats credit.names
  whole_credit whole = subst (λ (x : ℕ × List ℕ). IsWhole x.0 x.1) (λ i. (t.seats i, t.names i)) whole

  pub whole_queue : IsWhole credit.object.seats credit.names → IsWhole queue.object.seats queue.names
  whole_queue whole = subst (λ (x : ℕ × List ℕ). IsWhole x.0 x.1) (λ i. (sym t.seats i, sym t.names i)) whole

  module _ (whole : IsWhole credit.object.seats credit.names) where
    named : All (λ (m : Mark T). m.seat < credit.object.seats) queue.seen
    named = subst (λ (seats : ℕ). All (λ (m : Mark T). m.seat < seats) queue.seen) t.seats t.queue_named

    puts_are : count puts queue.seen ≡ weight_from (of_all parks) start [] credit.seen
    puts_are =
        sym (count-names puts credit.object.seats queue.seen named)
        ∙ (sum_same (λ name. count puts (marks_of seat_of name queue.seen)) (λ name. downs_parked_by name start credit.seen) credit.object.seats (λ name below. (t.matched name (whole name below)).parked)
        ∙ weights-names parks start credit.object.seats [] credit.seen t.credit_named)

    gots_are : count gots queue.seen ≡ weight_from (of_all wakes) start [] credit.seen
    gots_are =
        sym (count-names gots credit.object.seats queue.seen named)
        ∙ (sum_same (λ name. count gots (marks_of seat_of name queue.seen)) (λ name. ups_waking_by name start credit.seen) credit.object.seats (λ name below. (t.matched name (whole name below)).woken)
        ∙ weights-names wakes start credit.object.seats [] credit.seen t.credit_named)

    pub settled : IsSettled start credit.seen queue.seen
    settled =
        let put = puts_are in
        let got = gots_are in
        let granted = granted_is start credit.seen in
        let passed_or_woken = grants-parts start [] credit.seen in
        let passed_or_parked = debits-parts start [] credit.seen in
        let rest = length-drop (count gots queue.seen) (items_put queue.seen) in
        let items = items_count queue.seen in
        record {
          granted = omega (arith, got, granted, passed_or_woken);
          put = omega (arith, put, passed_or_parked);
          left = omega (arith, put, got, granted, passed_or_woken, passed_or_parked, rest, items);
        }

-- ---- credits at rest

-- each mark of a credit is a whole call, so every history is at rest
pub credit_rests : (h : List CreditMark) → IsAtRest credit_rules h
credit_rests h seat = (seat_words credit_rules seat h, append-nil (seat_words credit_rules seat h) ∙ each (seat_words credit_rules seat h))
  where
    each : (ks : List CreditKind) → ks ≡ flat_map (λ (k : CreditKind). k ∷ []) ks
    each [] = refl
    each (k ∷ ks) = ap (λ l. k ∷ l) (each ks)
