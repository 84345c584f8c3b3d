-- If all refused claims asked for 1, none is refused before the amounts granted reach the bound.
use Rattle.fak_model.proofs.Common.{cases_lt, nat_tests, RoomKind, RoomMark, AreNamed, refusal_of, other_amount, ◌≡◌, ℕ, ◌+◌, ◌<◌, ◌≤◌, List, refl, arith, inl, inr, common_steps}
use Rattle.fak_model.specs.Room.{kind_of, total, up_amount, over_amount, back_amount, release_amount, IsFair, room_rules, IsRoomHistory}
use Rattle.fak_model.proofs.Appending.{snoc_ind, history_front, last_fair}
use Rattle.fak_model.proofs.Leading.{total_push}
use Rattle.fak_model.proofs.RoomLaw.{held_fits}

-- if a claim of 1 is refused here, the value is at least the bound; before the first refused claim none was withdrawn,
-- so the bound was granted
refused_here : (bound : ℕ) (h : List RoomMark) (seat : ℕ) (kind : RoomKind) → IsFair bound h seat kind → 0 < refusal_of kind → other_amount kind ≡ 0
    → bound + (total back_amount h + total release_amount h) ≤ total up_amount h + total over_amount h
refused_here bound h seat kind fair some one = grind (arith, common_steps, refusal_of, other_amount, total, back_amount, release_amount, up_amount, over_amount, IsFair, nat_tests)

-- a mark that refuses nothing is no Over
over_refused : (kind : RoomKind) → refusal_of kind ≡ 0 → over_amount kind ≡ 0
over_refused kind e = grind (arith, common_steps, refusal_of, over_amount)

overs_refused : (h : List RoomMark) → total refusal_of h ≡ 0 → total over_amount h ≡ 0
overs_refused = snoc_ind (λ (h : List RoomMark). total refusal_of h ≡ 0 → total over_amount h ≡ 0) (λ e. refl) (λ h m before e.
    let r = total_push kind_of refusal_of h m in
    let o = total_push kind_of over_amount h m in
    let here = over_refused m.kind (omega (arith, r, e)) in
    omega (arith, o, here, before (omega (arith, r, e))))

pub refused_at_bound : (bound : ℕ) (h : List RoomMark) → IsRoomHistory bound h → total other_amount h ≡ 0 → 0 < total refusal_of h → bound ≤ total up_amount h
refused_at_bound bound = snoc_ind (λ (h : List RoomMark). IsRoomHistory bound h → total other_amount h ≡ 0 → 0 < total refusal_of h → bound ≤ total up_amount h) (λ law ones some. absurd (omega arith)) (λ h m before law ones some.
    let r = total_push kind_of refusal_of h m in
    let a = total_push kind_of other_amount h m in
    let u = total_push kind_of up_amount h m in
    elim (cases_lt 0 (total refusal_of h)) [
      | inl now ↦ (let old = before (history_front (room_rules bound) h m law) (omega (arith, a, ones)) now in omega (arith, old, u))
      | inr none ↦ (let here = refused_here bound h m.seat m.kind (last_fair (room_rules bound) h m law) (omega (arith, r, none, some)) (omega (arith, a, ones)) in
          let over = overs_refused h (omega (arith, none)) in
          omega (arith, here, over, u))
    ])

-- no more is granted than the bound plus what is released
pub granted_fit : (bound seats : ℕ) (h : List RoomMark) → IsRoomHistory bound h → AreNamed (room_rules bound) seats h → total up_amount h ≤ bound + total release_amount h
granted_fit bound seats h law named = let held = held_fits bound seats h law named in omega (arith, held.0, held.1)
