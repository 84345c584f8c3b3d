-- The law of a room.
use Rattle.fak_model.proofs.Common.{ints, sum_by_push, All-pop, RoomKind, RoomMark, seat_words, IsAtRest, AreNamed, sum_below, ◌≡◌, ◌≢◌, ◌⊎◌, ℕ, ◌+◌, ◌-◌, ◌<◌, ◌≤◌, List, [], ◌∷◌, ◌++◌, Some, refl, ap, sym, subst, arith, inl, inr, pos, sum_by, common_steps}
use Rattle.fak_model.specs.Room.{WholeCall, kinds_of_call, kind_of, total, up_amount, over_amount, back_amount, release_amount, amount_held, IsFair, value, room_rules, IsRoomHistory}
use Rattle.fak_model.proofs.Appending.{snoc_ind, seat_words-own, seat_words-other, history_front, last_fair}
use Rattle.fak_model.proofs.Leading.{CallsLead, history_leads, rest_even, total_push, sum_one, sum_none}
use Rattle.fak_model.proofs.Deciding.{same_or_not}

pub backs_after : CallsLead kinds_of_call back_amount over_amount
backs_after e a b le = grind (arith, common_steps, kinds_of_call, back_amount, over_amount)

-- a mark releases at most what its seat holds, and what it takes fits with what is counted
fits_of : (bound : ℕ) (h : List RoomMark) (seat : ℕ) (kind : RoomKind) → IsFair bound h seat kind
    → (release_amount kind ≤ amount_held seat h) × ((up_amount kind ≡ 0) ⊎ (((total up_amount h + total over_amount h) + up_amount kind ≤ bound + (total back_amount h + total release_amount h)) × (release_amount kind ≡ 0)))
fits_of bound h seat kind fair = grind (arith, common_steps, release_amount, amount_held, up_amount, total, over_amount, back_amount, IsFair)

release_fits : (bound : ℕ) (h : List RoomMark) (seat : ℕ) (kind : RoomKind) → IsFair bound h seat kind → release_amount kind ≤ amount_held seat h
release_fits bound h seat kind fair = (fits_of bound h seat kind fair).0

-- no seat gives back more than it was granted
pub releases_le : (bound k : ℕ) (h : List RoomMark) → IsRoomHistory bound h → sum_by release_amount (seat_words (room_rules bound) k h) ≤ sum_by up_amount (seat_words (room_rules bound) k h)
releases_le bound k =
    let Fits : List RoomKind → Type 0 = λ (w : List RoomKind). sum_by release_amount w ≤ sum_by up_amount w in
    snoc_ind (λ (h : List RoomMark). IsRoomHistory bound h → Fits (seat_words (room_rules bound) k h)) (λ law. omega arith) (λ h m before law.
    let old = before (history_front (room_rules bound) h m law) in
    elim (same_or_not m.seat k) [
      | inl own ↦ (let fair : release_amount m.kind ≤ amount_held k h = subst (λ s. release_amount m.kind ≤ amount_held s h) own (release_fits bound h m.seat m.kind (last_fair (room_rules bound) h m law)) in
          subst Fits (sym (seat_words-own (room_rules bound) k h m own)) (omega (arith, old, fair, sum_by_push release_amount (seat_words (room_rules bound) k h) m.kind, sum_by_push up_amount (seat_words (room_rules bound) k h) m.kind)))
      | inr other ↦ subst Fits (sym (seat_words-other (room_rules bound) k h m other)) old
    ])

held_own : (bound : ℕ) (h : List RoomMark) (m : RoomMark) → IsRoomHistory bound h → release_amount m.kind ≤ amount_held m.seat h
    → amount_held m.seat (h ++ m ∷ []) + release_amount m.kind ≡ amount_held m.seat h + up_amount m.kind
held_own bound h m law le = grind (arith, common_steps, seat_words-own, room_rules, sum_by, up_amount, sum_by_push, seat_words, release_amount, releases_le)

-- what all seats hold plus the Releases is the sum of the Ups, and fits
pub held_fits : (bound seats : ℕ) (h : List RoomMark) → IsRoomHistory bound h → AreNamed (room_rules bound) seats h
    → (sum_below (λ k. amount_held k h) seats + total release_amount h ≡ total up_amount h) × (sum_below (λ k. amount_held k h) seats ≤ bound)
held_fits bound seats =
    let Named : RoomMark → Type 0 = λ (m : RoomMark). m.seat < seats in
    snoc_ind (λ (h : List RoomMark). IsRoomHistory bound h → AreNamed (room_rules bound) seats h → (sum_below (λ k. amount_held k h) seats + total release_amount h ≡ total up_amount h) × (sum_below (λ k. amount_held k h) seats ≤ bound)) (λ law named.
    let none = sum_none (λ k. amount_held k []) seats (λ k. refl) in (omega arith, omega arith)) (λ h m before law named.
    let law' = history_front (room_rules bound) h m law in
    let pop = All-pop Named (h ++ m ∷ []) h (Some m) refl named in
    let old = before law' pop.0 in
    let fits = fits_of bound h m.seat m.kind (last_fair (room_rules bound) h m law) in
    let even : total back_amount h ≤ total over_amount h = history_leads (room_rules bound) back_amount over_amount backs_after seats h law' pop.0 in
    let ups = total_push kind_of up_amount h m in
    let downs = total_push kind_of release_amount h m in
    let others : (k : ℕ) → k ≢ m.seat → amount_held k (h ++ m ∷ []) ≡ amount_held k h = λ k d. ap (λ l. sum_by up_amount l - sum_by release_amount l) (seat_words-other (room_rules bound) k h m (λ e. d (sym e))) in
    let one = sum_one (λ k. amount_held k h) (λ k. amount_held k (h ++ m ∷ [])) m.seat seats pop.1 others in
    elim fits.1 [
      | inl z ↦ (let own = held_own bound h m law' fits.0 in (omega (arith, old.0, old.1, ups, downs, one, own, z), omega (arith, old.0, old.1, ups, downs, one, own, z)))
      | inr w ↦ (let own = held_own bound h m law' fits.0 in (omega (arith, old.0, old.1, ups, downs, one, own, w.0, w.1), omega (arith, old.0, old.1, ups, downs, one, own, w.0, w.1, even)))
    ])

pub room_fits : (bound seats : ℕ) (h : List RoomMark) → IsRoomHistory bound h → AreNamed (room_rules bound) seats h → sum_below (λ k. amount_held k h) seats ≤ bound
room_fits bound seats h law named = (held_fits bound seats h law named).1

-- the Overs of a call amount to its Backs
pub call_even : (c : WholeCall) → sum_by over_amount (kinds_of_call c) ≡ sum_by back_amount (kinds_of_call c)
call_even c = grind (arith, common_steps, sum_by, over_amount, kinds_of_call, back_amount)

-- if no call is cut short, the value is what all seats hold
pub room_rests : (bound seats : ℕ) (h : List RoomMark) → IsRoomHistory bound h → AreNamed (room_rules bound) seats h → IsAtRest (room_rules bound) h → value h ≡ pos (sum_below (λ k. amount_held k h) seats)
room_rests bound seats h law named rest =
    let sum = (held_fits bound seats h law named).0 in
    let even : total over_amount h ≡ total back_amount h = rest_even (room_rules bound) over_amount back_amount call_even seats h rest named in
    omega (arith, ints, sum, even)
