-- A bundle deals its seats, one after the other, each with its share of the tickets that are left.
use Rattle.std.proofs.Math.Nat.{div-mul-le_self, div-le_of_le-mul, le-div_iff_mul-le, lt-div-mul-add, lt-mul-div-succ, mul_comm, mul-le-mul_right, mul-suc}
use Rattle.std.proofs.lemmas.List.Elements.{All-push, All-nil}
use Rattle.std.proofs.lemmas.List.Sums.{sum_by_push}
use Rattle.std.proofs.lemmas.List.{map-append, length-map}
use Rattle.fak_model.proofs.Seats.{in_right}
use Rattle.fak_model.specs.Calls.{object_id, SeatInfo}
use Rattle.fak_model.specs.Seats.{marks_of}
use Rattle.fak_model.specs.Views.{dealt, kept}
use Rattle.fak_model.specs.declared.queue.Stage.TheVariants as at
use Rattle.fak_core.specs.declared.queue.phase.Phase.TheVariants as phase
use Rattle.fak_queue.specs.BundleCalls.{BundleInfo, IsQueueBundle, drawn_by_all, queue_bundle, tickets_of_all}
use Rattle.fak_queue.specs.Bundling.{AreSeatsOf, HasShare, StaysAtRest, WasIn, name_of, stint_of}
use Rattle.fak_queue.specs.declared.bundle.BundleState.{BundleState}
use Rattle.fak_queue.proofs.SeatCalls.{state_shown}
use Rattle.fak_queue.proofs.Common.{IsQueueSeat, RestsAt, IsQueueHistory, QueueHolder, idle, queue_seat, seat_of, stage, tickets_in, sight, ◌≡◌, ℕ, suc, ◌+◌, ◌-◌, ◌*◌, ◌/◌, ◌<◌, ◌≤◌, List, [], ◌∷◌, ◌++◌, length, length-append, map, refl, sym, ap, ◌∙◌, subst, inl, inr, arith, append_assoc, append-nil, reverse, All, In, sum_by, Mark, TableId, div-le_self, le_or_lt}

-- ---- shares of a number, one after the other

-- q or one more to each of those that are left
pub record IsEven (q many left : ℕ) : Type 0 where
  pub least : q * many ≤ left
  pub most : left ≤ (q + 1) * many

pub even_first : (left many : ℕ) → 0 < many → IsEven (left / many) many left
even_first left many some = record {
  least = div-mul-le_self left many;
  most = (let up = lt-mul-div-succ left {b = many} some in let same = mul_comm (left / many + 1) many in omega (arith, up, same));
}

pub share_least : (q k left : ℕ) → IsEven q (suc k) left → q ≤ left / suc k
share_least q k left e = (le-div_iff_mul-le {k = suc k} (omega arith)).1 e.least

pub share_most : (q k left : ℕ) → IsEven q (suc k) left → left / suc k ≤ q + 1
share_most q k left e = div-le_of_le-mul (suc k) (let same = mul_comm (q + 1) (suc k) in let most = e.most in omega (arith, same, most))

pub even_next : (q k left : ℕ) → IsEven q (suc k) left → IsEven q k (left - left / suc k)
even_next q k left e =
    let d : ℕ = left / suc k in
    let low : d * suc k ≤ left = div-mul-le_self left (suc k) in
    let high : left < d * suc k + suc k = lt-div-mul-add {a = left} {b = suc k} (omega arith) in
    let d_is : d * suc k ≡ d * k + d = mul-suc d k in
    let more : (q + 1) * suc k ≡ (q + 1) * k + (q + 1) = mul-suc (q + 1) k in
    let least : q * k ≤ d * k = mul-le-mul_right k (share_least q k left e) in
    record {
      least = omega (arith, low, d_is, least);
      most = elim (le_or_lt (q + 1) d) [
        | inl over ↦ (let most = e.most in omega (arith, over, most, more))
        | inr under ↦ (let up : (d + 1) * k ≤ (q + 1) * k = mul-le-mul_right k (omega (arith, under)) in let one : (d + 1) * k ≡ d * k + k = mul_comm (d + 1) k ∙ (let c = mul_comm k d in let s = mul-suc k d in omega (arith, c, s)) in omega (arith, high, d_is, up, one))
      ];
    }

-- ---- the seats that were dealt

-- what stays while the seats are dealt: the bundle has these names, tickets and marks
pub record Deals {T : Type 0} (bundle : BundleInfo (Mark T)) (table : TableId) (seats : ℕ) (names : List ℕ) (all_left : ℕ) (seen : List (Mark T)) : Type 0 where
  pub object : bundle.object ≡ object_id table seats
  pub names_are : bundle.names ≡ names
  pub seen_is : bundle.seen ≡ reverse seen
  pub stint_is : bundle.stint ≡ all_left + tickets_of_all names (reverse seen)
  pub few : seats ≤ 1024
  pub below : (n : ℕ) → In n names → n < seats
  pub idle : (n : ℕ) → In n names → stage seen n ≡ at.Idle
  pub lawful : IsQueueHistory table.slots (reverse seen)
  pub named : All (λ (m : Mark T). m.seat < seats) (reverse seen)

-- the seats of the names before these were dealt, and the token has the others
pub record Dealt {T : Type 0} (bundle : BundleInfo (Mark T)) (names : List ℕ) (all_left : ℕ) (seen : List (Mark T)) (others : List ℕ) (left : ℕ) (seats : List (SeatInfo (Mark T))) (me : QueueHolder T) : Type 0 where
  pub done : List ℕ
  pub are : done ++ others ≡ names
  pub token : me ≡ (sight others me.0.noted seen phase.Idle left, [])
  pub names_are : map name_of seats ≡ done
  pub each : All (WasIn bundle) seats
  pub stint : sum_by stint_of seats + left ≡ all_left + tickets_of_all done (reverse seen)
  pub shares : All (HasShare all_left (length names)) seats
  pub even : IsEven (all_left / length names) (length others) left

module _ {T : Type 0} {bundle : BundleInfo (Mark T)} {table now : TableId} {seats all_left left many name : ℕ} {names others rest : List ℕ} {seen : List (Mark T)} {so_far : List (SeatInfo (Mark T))} {me next part : QueueHolder T}
    (d : Deals bundle table seats names all_left seen) (before : Dealt bundle names all_left seen others left so_far me) (are : others ≡ name ∷ rest) (many_is : many ≡ length others) (next_is : next ≡ (kept me.0, me.1)) (part_is : part ≡ (dealt me.0, [])) (stays : now ≡ table) where
  g : Dealt bundle names all_left seen (name ∷ rest) left so_far me
  g = subst (λ l. Dealt bundle names all_left seen l left so_far me) are before

  share_is : left / many ≡ left / suc (length rest)
  share_is = ap (λ k. left / k) (many_is ∙ ap length are)

  part_now : part ≡ (sight (name ∷ []) me.0.noted seen phase.Idle (left / many), [])
  part_now = part_is ∙ (ap (λ (x : QueueHolder T). let y : QueueHolder T = (dealt x.0, []) in y) g.token ∙ ap (λ (k : ℕ). let y : QueueHolder T = (sight (name ∷ []) me.0.noted seen phase.Idle k, []) in y) (sym share_is))

  next_now : next ≡ (sight rest me.0.noted seen phase.Idle (left - left / many), [])
  next_now = next_is ∙ (ap (λ (x : QueueHolder T). let y : QueueHolder T = (kept x.0, x.1) in y) g.token ∙ ap (λ (k : ℕ). let y : QueueHolder T = (sight rest me.0.noted seen phase.Idle (left - k), []) in y) (sym share_is))

  next_noted : next.0.noted ≡ me.0.noted
  next_noted = ap (λ (x : QueueHolder T). x.0.noted) next_is

  there : In name names
  there = subst (In name) g.are (in_right name g.done (name ∷ rest) (inl refl))

  keeps : IsQueueSeat table.slots seats name phase.Idle (left / many) part
  keeps =
      let here : IsQueueSeat table.slots seats name phase.Idle (left / many) (sight (name ∷ []) me.0.noted seen phase.Idle (left / many), []) = record {
        token = record { me_is = refl; below = d.below name there; few = d.few; named = d.named };
        rests = subst (RestsAt phase.Idle) (sym (d.idle name there)) idle;
        lawful = d.lawful;
      } in
      subst (IsQueueSeat table.slots seats name phase.Idle (left / many)) (sym part_now) here

  -- the seat keeps what seats keep
  pub dealt_keeps : IsQueueSeat now.slots seats name phase.Idle (left / many) part
  dealt_keeps = subst (λ (t : TableId). IsQueueSeat t.slots seats name phase.Idle (left / many) part) (sym stays) keeps

  abbrev pub its : SeatInfo (Mark T)
  its = queue_seat (object_id now seats) name (left / many) part

  saw : part.0.seen ≡ seen
  saw = ap (λ (x : QueueHolder T). x.0.seen) part_now

  was_in : WasIn bundle its
  was_in = record {
    object = ap (λ (t : TableId). object_id t seats) stays ∙ sym d.object;
    seen = ap (λ (l : List (Mark T)). reverse l) saw ∙ sym d.seen_is;
    state = state_shown (object_id now seats) name (left / many) part phase.Idle keeps.rests;
  }

  shared : HasShare all_left (length names) its
  shared = record {
    share = left / many;
    left_is = refl;
    least = subst (λ k. all_left / length names ≤ k) (sym share_is) (share_least (all_left / length names) (length rest) left g.even);
    most = subst (λ k. k ≤ all_left / length names + 1) (sym share_is) (share_most (all_left / length names) (length rest) left g.even);
  }

  stint : sum_by stint_of (so_far ++ its ∷ []) + (left - left / many) ≡ all_left + tickets_of_all (g.done ++ name ∷ []) (reverse seen)
  stint =
      let tickets : ℕ → ℕ = λ n. tickets_in (marks_of seat_of n (reverse seen)) in
      let own : its.stint ≡ left / many + tickets name = ap (λ (l : List (Mark T)). left / many + tickets_in (marks_of seat_of name (reverse l))) saw in
      let fits : left / many ≤ left = div-le_self left many in
      let all : sum_by stint_of (so_far ++ its ∷ []) ≡ sum_by stint_of so_far + its.stint = sum_by_push stint_of so_far its in
      let drawn : tickets_of_all (g.done ++ name ∷ []) (reverse seen) ≡ tickets_of_all g.done (reverse seen) + tickets name = sum_by_push tickets g.done name in
      omega (arith, all, drawn, own, fits, g.stint)

  pub dealt_next : Dealt bundle names all_left seen rest (left - left / many) (so_far ++ its ∷ []) next
  dealt_next = record {
    done = g.done ++ name ∷ [];
    are = append_assoc g.done (name ∷ []) rest ∙ g.are;
    token = next_now ∙ ap (λ known. let y : QueueHolder T = (sight rest known seen phase.Idle (left - left / many), []) in y) (sym next_noted);
    names_are = map-append name_of so_far (its ∷ []) ∙ ap (λ l. l ++ name ∷ []) g.names_are;
    each = All-push (WasIn bundle) so_far its g.each was_in;
    stint = stint;
    shares = All-push (HasShare all_left (length names)) so_far its g.shares shared;
    even = subst (λ k. IsEven (all_left / length names) (length rest) (left - k)) (sym share_is) (even_next (all_left / length names) (length rest) left g.even);
  }

-- the same of the lists as they are then
pub dealt_as : {T : Type 0} {bundle : BundleInfo (Mark T)} {all_left left : ℕ} {names others others_now : List ℕ} {seen : List (Mark T)} {so_far now : List (SeatInfo (Mark T))} {me : QueueHolder T} → Dealt bundle names all_left seen others left so_far me → others_now ≡ others → now ≡ so_far
    → Dealt bundle names all_left seen others_now left now me
dealt_as {T} {bundle} {all_left} {left} {names} {others} {others_now} {seen} {so_far} {now} {me} g fewer more = subst (λ (x : List ℕ × List (SeatInfo (Mark T))). Dealt bundle names all_left seen x.0 left x.1 me) (λ i. (sym fewer i, sym more i)) g

-- a list with room for all names has room for one more seat
pub dealt_room : {T : Type 0} {bundle : BundleInfo (Mark T)} {all_left left name : ℕ} {names others rest : List ℕ} {seen : List (Mark T)} {so_far : List (SeatInfo (Mark T))} {me : QueueHolder T} → Dealt bundle names all_left seen others left so_far me → others ≡ name ∷ rest → length so_far < length names
dealt_room {name = name} {names = names} {others = others} {rest = rest} {so_far = so_far} g are =
    let long : length so_far ≡ length g.done = sym (length-map so_far name_of) ∙ ap length g.names_are in
    let all : length g.done + length others ≡ length names = sym (length-append g.done others) ∙ ap length g.are in
    let more : length others ≡ suc (length rest) = ap length are in
    omega (arith, long, all, more)

-- ---- the first and the last

module _ {T : Type 0} {bundle : BundleInfo (Mark T)} {table : TableId} {own size seats left capacity : ℕ} {names : List ℕ} {kept : List T} {state : BundleState} {m after : QueueHolder T}
    (f : IsQueueBundle table.slots own names capacity kept state left m) (bundle_is : queue_bundle (object_id table own) names left state m ≡ bundle) (stays : StaysAtRest size seats m after) where
  pub deals_first : Deals bundle table own names left m.0.seen
  deals_first =
      let here : Deals (queue_bundle (object_id table own) names left state m) table own names left m.0.seen = record {
        object = refl;
        names_are = refl;
        seen_is = refl;
        stint_is = refl;
        few = f.few_seats;
        below = f.below;
        idle = λ n i. ap (λ (l : List (Mark T)). stage l n) (sym stays.seen) ∙ stays.rests.idle n (subst (In n) (sym f.names_are) i);
        lawful = f.lawful.lawful;
        named = f.lawful.named;
      } in
      subst (λ (b : BundleInfo (Mark T)). Deals b table own names left m.0.seen) bundle_is here

  pub dealt_first : Dealt bundle names left m.0.seen names left [] after
  dealt_first = record {
    done = [];
    are = refl;
    token = stays.rests.token.me_is ∙ (λ i. (sight ((stays.rests.names_are ∙ f.names_are) i) after.0.noted (stays.seen i) phase.Idle ((stays.rests.left_is ∙ f.left_is) i), []));
    names_are = refl;
    each = All-nil (WasIn bundle);
    stint = omega arith;
    shares = All-nil (HasShare left (length names));
    even = even_first left (length names) f.some;
  }

-- all were dealt
pub dealt_all : {T : Type 0} {bundle : BundleInfo (Mark T)} {table : TableId} {seats all_left left : ℕ} {names : List ℕ} {seen : List (Mark T)} {dealt : List (SeatInfo (Mark T))} {me : QueueHolder T} (others : List ℕ) → Deals bundle table seats names all_left seen → Dealt bundle names all_left seen others left dealt me → others ≡ []
    → AreSeatsOf bundle dealt
dealt_all {T} {bundle} {table} {seats} {all_left} {left} {names} {seen} {dealt} {me} others d g none =
    let are : g.done ≡ names = sym (append-nil g.done) ∙ (ap (λ l. g.done ++ l) (sym none) ∙ g.are) in
    let tickets : tickets_of_all g.done (reverse seen) ≡ tickets_of_all names (reverse seen) = ap (λ l. tickets_of_all l (reverse seen)) are in
    let over : IsEven (all_left / length names) 0 left = subst (λ (l : List ℕ). IsEven (all_left / length names) (length l) left) none g.even in
    let spent : left ≡ 0 = (let most = over.most in omega (arith, most)) in
    let drawn : drawn_by_all bundle ≡ tickets_of_all names (reverse seen) = λ i. tickets_of_all (d.names_are i) (d.seen_is i) in
    record {
      names = g.names_are ∙ (are ∙ sym d.names_are);
      each = g.each;
      stint = omega (arith, g.stint, spent, tickets, d.stint_is);
      shares = λ k is. (let same : all_left ≡ k = omega (arith, is, drawn, d.stint_is) in subst (λ (x : ℕ × ℕ). All (HasShare x.0 x.1) dealt) (λ i. (same i, ap length (sym d.names_are) i)) g.shares);
    }
