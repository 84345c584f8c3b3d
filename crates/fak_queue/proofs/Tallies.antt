-- What tallies keep of their seats, and what a whole tally tells.
use Rattle.fak_queue.proofs.Common.{Idle, QueueHolder, QueueInfo, seat_of, state_of, queue_seat, RestsAt, IsQueueSeat, AreIdle, ◌≡◌, ℕ, ◌<◌, ◌≤◌, ◌==◌, false, List, [], ◌∷◌, refl, sym, ap, ◌∙◌, subst, inl, inr, arith, map, reverse, All, nat_tests, All-head, All-tail, AreNamed, IsAtRest, Owes, seat_words, word, queue_rules, words_of_call, stage, In, IsWhole, Knows, marks_of, SeatInfo, TallyInfo, object_id, IsJoined, TableId, Mark, in_either, Phase, le_or_lt}
use Rattle.fak_queue.proofs.SeatCalls.{idle_phase, state_shown, state_in}
use Rattle.fak_queue.proofs.States.{idle_state, rests_idle}

-- no call of this name is cut short
abbrev pub HasEnded : {T : Type 0} → ℕ → List (Mark T) → Type 0
HasEnded n h = Owes words_of_call (seat_words (queue_rules 0) n h) []

-- an idle seat
pub seat_ended : {T : Type 0} {size seats name left : ℕ} {p : Phase T} {m : QueueHolder T} {table : TableId} {seat : SeatInfo (Mark T)} → IsQueueSeat size seats name p left m → queue_seat (object_id table seats) name left m ≡ seat → state_of seat ≡ Idle → HasEnded name (reverse m.0.seen)
seat_ended {T} {size} {seats} {name} {left} {p} {m} {table} f seat_is e =
    let shown : state_of (queue_seat (object_id table seats) name left m) ≡ state_in p = state_shown (object_id table seats) name left m p f.rests in
    let is = idle_phase f.rests (sym shown ∙ (ap state_of seat_is ∙ e)) in
    idle_state size (object_id table seats) name left m f.lawful (rests_idle (subst (λ (q : Phase T). RestsAt q (stage m.0.seen name)) is f.rests))

pub one_idle : {T : Type 0} {name : ℕ} {names : List ℕ} (h : List (Mark T)) → names ≡ name ∷ [] → HasEnded name h → AreIdle names h
one_idle {name = name} h one ended n i = elim (subst (In n) one i) [ inl e ↦ subst (λ k. HasEnded k h) (sym e) ended | inr z ↦ absurd z ]

-- the marks of these names determine that they are idle
idle_known : {T : Type 0} {names : List ℕ} {seen h : List (Mark T)} → Knows seat_of names seen h → AreIdle names seen → AreIdle names h
idle_known {T} k idle n i = subst (λ (l : List (Mark T)). Owes words_of_call (map (λ (m : Mark T). word m.kind) l) []) (sym (k.own n i)) (idle n i)

pub idle_joined : {T : Type 0} {size : ℕ} {tally both : TallyInfo (Mark T)} {seat : SeatInfo (Mark T)} → IsJoined (queue_rules size) tally seat both → AreIdle tally.names tally.seen → HasEnded seat.name seat.seen → AreIdle both.names both.seen
idle_joined {tally = tally} {seat = seat} j idle ended n i = elim (in_either n tally.names (seat.name ∷ []) (subst (In n) j.names i)) [
  | inl of_tally ↦ idle_known j.of_tally idle n of_tally
  | inr of_seat ↦ idle_known j.of_seat (one_idle seat.seen refl ended) n of_seat
]

-- ---- whole tallies

no_marks : {T : Type 0} (seats n : ℕ) (h : List (Mark T)) → All (λ (m : Mark T). m.seat < seats) h → seats ≤ n → marks_of seat_of n h ≡ []
no_marks seats n [] named high = refl
no_marks {T} seats n (m ∷ h) named high =
    let below = All-head (λ (x : Mark T). x.seat < seats) m h named in
    let other : (m.seat == n) ≡ false = grind (arith, nat_tests) in
    rw other (no_marks seats n h (All-tail (λ (x : Mark T). x.seat < seats) m h named) high)

-- if all seats are idle, no call is cut short
pub whole_rests : {T : Type 0} {seats : ℕ} (size : ℕ) (names : List ℕ) (h : List (Mark T)) → IsWhole seats names → AreNamed (queue_rules size) seats h → AreIdle names h → IsAtRest (queue_rules size) h
whole_rests {T} {seats} size names h whole named idle n = elim (le_or_lt seats n) [
  | inl high ↦ subst (λ (l : List (Mark T)). Owes words_of_call (map (λ (m : Mark T). word m.kind) l) []) (sym (no_marks seats n h named high)) ([], refl)
  | inr low ↦ idle n (whole n low)
]

-- what a tally tells over its own object, it tells over the queue
module _ {T : Type 0} (queue : QueueInfo) (tally : TallyInfo (Mark T)) (fits : tally.object ≡ queue.object) where
  pub named_in : AreNamed (queue_rules 0) tally.object.seats tally.seen → AreNamed (queue_rules queue.size) queue.object.seats tally.seen
  named_in named = subst (λ o. AreNamed (queue_rules 0) o.seats tally.seen) fits named
