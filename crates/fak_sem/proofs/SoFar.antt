-- Calls of the wait queue by steps: what the steps have done so far, and how they add up to whole calls.
use Rattle.fak_sem.proofs.Common.{◌≡◌, ℕ, List, [], ◌∷◌, ◌++◌, refl, ap, sym, ◌∙◌, subst, append_assoc, append-nil, flat_map, Mark, SeatInfo, seat_info, seat_of, Makes, made_by, state_of, kinds_not_in, kinds_not_out, InsertsAtLast, DeletesAtLast, common_steps, arith, Some, mine_of, last_of, Kind, made_by_append, flat_map_push, Fills, WaitsToFill, Takes, WaitsToTake, MakesAtLast, Standing, ClaimsRoom, ClaimsItem, HasMade, HasMadeAtLast, ParkedSoFar, WokenSoFar}
use Rattle.std.proofs.lemmas.List.Concat.{flat_map-append}
use Rattle.fak_model.specs.declared.queue.Kind.TheVariants as made
use Rattle.fak_model.specs.Queue.{items_put, item_in, item_at}
use Rattle.fak_model.specs.Seats.{Begins}
use Rattle.fak_queue.proofs.WholeCalls.{item_at-front}
use Rattle.fak_queue.specs.declared.state.SeatState.TheVariants as state
use Rattle.fak_sem.specs.declared.standing.Standing.TheVariants.{Idle, Parking, Inserting, Waking, Deleting}

-- ---- parts of a call, one after another

last_behind : {T : Type 0} (name : ℕ) (ks : List (Kind T)) (κ : Kind T) (ls : List (Kind T)) → last_of (made_by name (ks ++ κ ∷ ls)) ≡ last_of (made_by name (κ ∷ ls))
last_behind name [] κ ls = refl
last_behind name (x ∷ []) κ ls = refl
last_behind name (x ∷ y ∷ ks) κ ls = last_behind name (y ∷ ks) κ ls

module _ {T : Type 0} {size : ℕ} where
  pub made_first : {ks : List (Kind T)} {old new : SeatInfo (Mark T)} → Makes size ks old new → HasMade size ks old new
  made_first m = record { same_seat = m.same_seat; begins = m.begins; mine = m.mine; lawful = m.lawful; named = m.named }

  pub made_more : (ks ls : List (Kind T)) {old mid new : SeatInfo (Mark T)} → HasMade size ks old mid → Makes size ls mid new → HasMade size (ks ++ ls) old new
  made_more ks ls {old} {mid} {new} a b = grind (arith, common_steps, seat_info, append_assoc, made_by, mine_of, seat_of, made_by_append)

  pub made_last : (ks : List (Kind T)) (κ : Kind T) (ls : List (Kind T)) {old mid new : SeatInfo (Mark T)} → HasMade size ks old mid → Makes size (κ ∷ ls) mid new → Makes size (ks ++ κ ∷ ls) old new
  made_last ks κ ls {old} {mid} {new} a b = grind (arith, common_steps, made_more, last_of, made_by, last_behind)

  -- ---- after refused claims

  module _ {R : Type 0} (kinds_of : R → List (Kind T)) where
    first_made : (ks : List (Kind T)) {old new : SeatInfo (Mark T)} → Makes size ks old new → HasMadeAtLast kinds_of size ks old new
    first_made ks m = record { refused = []; made = made_first m }

    refused_first : (r : R) {old new : SeatInfo (Mark T)} → Makes size (kinds_of r) old new → HasMadeAtLast kinds_of size [] old new
    refused_first r {old} {new} m =
        let same : kinds_of r ≡ (kinds_of r ++ []) ++ [] = sym (append-nil (kinds_of r ++ []) ∙ append-nil (kinds_of r)) in
        record { refused = r ∷ []; made = subst (λ (ks : List (Kind T)). HasMade size ks old new) same (made_first m) }

    refused_more : (r : R) {old mid new : SeatInfo (Mark T)} → HasMadeAtLast kinds_of size [] old mid → Makes size (kinds_of r) mid new → HasMadeAtLast kinds_of size [] old new
    refused_more r {old} {mid} {new} h m =
        let rs = h.refused in
        let same : (flat_map kinds_of rs ++ []) ++ kinds_of r ≡ flat_map kinds_of (rs ++ r ∷ []) ++ [] =
        ap (λ l. l ++ kinds_of r) (append-nil (flat_map kinds_of rs)) ∙ (sym (flat_map_push kinds_of rs r) ∙ sym (append-nil (flat_map kinds_of (rs ++ r ∷ [])))) in
        record { refused = rs ++ r ∷ []; made = subst (λ (ks : List (Kind T)). HasMade size ks old new) same (made_more (flat_map kinds_of rs ++ []) (kinds_of r) h.made m) }

    then_made : (ks : List (Kind T)) {old mid new : SeatInfo (Mark T)} → HasMadeAtLast kinds_of size [] old mid → Makes size ks mid new → HasMadeAtLast kinds_of size ks old new
    then_made ks {old} {mid} {new} h m =
        let same : (flat_map kinds_of h.refused ++ []) ++ ks ≡ flat_map kinds_of h.refused ++ ks = ap (λ l. l ++ ks) (append-nil (flat_map kinds_of h.refused)) in
        record { refused = h.refused; made = subst (λ (l : List (Kind T)). HasMade size l old new) same (made_more (flat_map kinds_of h.refused ++ []) ks h.made m) }

    looked : (ks : List (Kind T)) {old mid new : SeatInfo (Mark T)} → HasMadeAtLast kinds_of size ks old mid → Makes size [] mid new → HasMadeAtLast kinds_of size ks old new
    looked ks {old} {mid} {new} h m =
        let same : (flat_map kinds_of h.refused ++ ks) ++ [] ≡ flat_map kinds_of h.refused ++ ks = append-nil (flat_map kinds_of h.refused ++ ks) in
        record { refused = h.refused; made = subst (λ (l : List (Kind T)). HasMade size l old new) same (made_more (flat_map kinds_of h.refused ++ ks) [] h.made m) }

    whole : (ks : List (Kind T)) (κ : Kind T) (ls : List (Kind T)) {old mid new : SeatInfo (Mark T)} → HasMadeAtLast kinds_of size ks old mid → Makes size (κ ∷ ls) mid new → MakesAtLast kinds_of size (ks ++ κ ∷ ls) old new
    whole ks κ ls {old} {mid} {new} h m = grind (arith, common_steps, flat_map, append_assoc, made_last)

-- ---- insertions

module _ {T : Type 0} (size : ℕ) (who : T) (old : SeatInfo (Mark T)) where
  pub parked_first : (now : Standing T) (new : SeatInfo (Mark T)) → ClaimsRoom size who old new now → ParkedSoFar size who now old new
  parked_first Idle new c = c
  parked_first (Parking x) new c = (c.0, refused_first kinds_not_in c.2.0 c.2.1)
  parked_first Inserting new c = first_made kinds_not_in (made.ClaimIn ∷ made.Put who ∷ []) c.1
  parked_first Waking new c = c
  parked_first Deleting new c = c

  pub parked_claim : (x : T) (now : Standing T) (mid new : SeatInfo (Mark T)) → ParkedSoFar size who (Parking x) old mid → ClaimsRoom size x mid new now → ParkedSoFar size who now old new
  parked_claim x Idle mid new p c = c
  parked_claim x (Parking y) mid new p c = (c.0 ∙ p.0, refused_more kinds_not_in c.2.0 p.1 c.2.1)
  parked_claim x Inserting mid new p c = then_made kinds_not_in (made.ClaimIn ∷ made.Put who ∷ []) p.1 (subst (λ (y : T). Makes size (made.ClaimIn ∷ made.Put y ∷ []) mid new) p.0 c.1)
  parked_claim x Waking mid new p c = c
  parked_claim x Deleting mid new p c = c

  pub parked_looks : (k : ℕ) (mid new : SeatInfo (Mark T)) → ParkedSoFar size who Inserting old mid → WaitsToFill size k mid new → ParkedSoFar size who Inserting old new
  parked_looks k mid new p w = looked kinds_not_in (made.ClaimIn ∷ made.Put who ∷ []) p w.makes

  pub parked_whole : (k : ℕ) (mid new : SeatInfo (Mark T)) → ParkedSoFar size who Inserting old mid → Fills size k mid new → InsertsAtLast size who old new
  parked_whole k mid new p f = (k, whole kinds_not_in (made.ClaimIn ∷ made.Put who ∷ []) (made.Fill k) (made.EndIn ∷ []) p f)

-- ---- deletions

-- the item of a ticket stays as more is seen
item_kept : {T : Type 0} (h more : List (Mark T)) (k : ℕ) (x : T) → Begins h more → item_at (items_put h) k ≡ Some x → item_at (items_put more) k ≡ Some x
item_kept {T} h more k x b e = subst (λ (l : List (Mark T)). item_at (items_put l) k ≡ Some x) b.1 (ap (λ l. item_at l k) (flat_map-append item_in h b.0) ∙ item_at-front (items_put h) (items_put b.0) k x e)

some_same : {A : Type 0} {y z : A} → Some y ≡ Some z → y ≡ z
some_same e = cc

module _ {T : Type 0} (size : ℕ) (old : SeatInfo (Mark T)) where
  pub woken_first : (now : Standing T) (new : SeatInfo (Mark T)) → ClaimsItem size old new now → WokenSoFar size now old new
  woken_first Idle new c = c
  woken_first (Parking x) new c = c
  woken_first Inserting new c = c
  woken_first Waking new c = refused_first kinds_not_out c.1.0 c.1.1
  woken_first Deleting new c = record { ticket = c.ticket; item = c.item; state = c.state; put = c.put; made = first_made kinds_not_out (made.ClaimOut ∷ made.Got c.item ∷ []) c.makes }

  pub woken_claim : (now : Standing T) (mid new : SeatInfo (Mark T)) → WokenSoFar size Waking old mid → ClaimsItem size mid new now → WokenSoFar size now old new
  woken_claim Idle mid new p c = c
  woken_claim (Parking x) mid new p c = c
  woken_claim Inserting mid new p c = c
  woken_claim Waking mid new p c = refused_more kinds_not_out c.1.0 p c.1.1
  woken_claim Deleting mid new p c = record { ticket = c.ticket; item = c.item; state = c.state; put = c.put; made = then_made kinds_not_out (made.ClaimOut ∷ made.Got c.item ∷ []) p c.makes }

  pub woken_looks : (mid new : SeatInfo (Mark T)) → WokenSoFar size Deleting old mid → state_of new ≡ state_of mid → ((k : ℕ) → state_of mid ≡ state.Deleting k → WaitsToTake size k mid new) → WokenSoFar size Deleting old new
  woken_looks mid new p same w = grind (arith, common_steps, item_kept, kinds_not_out)

  pub woken_whole : (j : ℕ) (x : T) (mid new : SeatInfo (Mark T)) → WokenSoFar size Deleting old mid → ((k : ℕ) → state_of mid ≡ state.Deleting k → (j ≡ k) × Takes size k x mid new) → DeletesAtLast size x old new
  woken_whole j x mid new p t =
      let takes = (t p.ticket p.state).1 in
      let same : p.item ≡ x = some_same (sym (item_kept mid.seen new.seen p.ticket p.item takes.makes.begins p.put) ∙ takes.put) in (
        p.ticket,
        subst (λ (y : T). MakesAtLast kinds_not_out size (made.ClaimOut ∷ made.Got y ∷ made.Take p.ticket ∷ made.EndOut ∷ []) old new) same
            (whole kinds_not_out (made.ClaimOut ∷ made.Got p.item ∷ []) (made.Take p.ticket) (made.EndOut ∷ []) p.made takes.makes),
      )
