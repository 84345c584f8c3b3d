-- Parts of a call in the queue, one after another, with looks in between.
use Rattle.std.proofs.Common.{◌≡◌, ℕ, ◌+◌, ◌<◌, List, [], ◌∷◌, ◌++◌, length, length-append, refl, ap, sym, ◌∙◌, subst, append-nil, append_assoc, inl, inr, arith, Some, flat_map}
use Rattle.std.proofs.lemmas.Grind.{common_steps}
use Rattle.std.proofs.lemmas.List.Elements.{All-push, All-cons, All-nil}
use Rattle.fak_model.specs.declared.queue.Kind.{Kind}
use Rattle.fak_model.specs.declared.queue.Kind.TheVariants as made
use Rattle.fak_model.specs.declared.queue.Mark.{Mark}
use Rattle.fak_model.specs.Calls.{SeatInfo, seat_info, mine_of, before_mark, last_of}
use Rattle.fak_model.specs.Queue.{count, puts, gots, items_put, item_at}
use Rattle.fak_model.specs.Seats.{Begins, marks_of}
use Rattle.fak_queue.proofs.AfterRefusals.{made_by_append, flat_map_push}
use Rattle.fak_queue.proofs.WholeCalls.{before_mark-stays, item_stays}
use Rattle.fak_queue.specs.Queues.{Makes, Inserts, Deletes, ClaimsIn, ClaimsOut, Fills, Takes, RefusesFull, RefusesClosed, RefusesEmpty, made_by, seat_of, before_own, drawn_by}
use Rattle.fak_queue.specs.Retries.{RefusedInsertion, NotIn, WithdrawnIn, ClosedIn, WithdrawnLate, kinds_not_in, IsFull, IsClosed, RefusedDeletion, NotOut, WithdrawnOut, kinds_not_out, InsertsAfterFull, ClosesAfterFull}
use Rattle.fak_channel.specs.Marks.{HasMade, Looked, HasFoundFull, FullSoFar, HasFoundEmpty, EmptySoFar, HasClaimedIn, HasClaimedOut}

last_behind : {T : Type 0} (name : ℕ) (ks : List (Kind T)) (κ : Kind T) (ls : List (Kind T)) → last_of (made_by name (ks ++ κ ∷ ls)) ≡ last_of (made_by name (κ ∷ ls))
last_behind name [] κ ls = refl
last_behind name (x ∷ []) κ ls = refl
last_behind name (x ∷ y ∷ ks) κ ls = last_behind name (y ∷ ks) κ ls

made_by_length : {T : Type 0} (name : ℕ) (ks : List (Kind T)) → length (made_by name ks) ≡ length ks
made_by_length name [] = refl
made_by_length name (κ ∷ ks) = omega (arith, made_by_length name ks)

stays : {T : Type 0} (k : ℕ) (x : T) (b c : SeatInfo (Mark T)) → Begins b.seen c.seen → item_at (items_put b.seen) k ≡ Some x → item_at (items_put c.seen) k ≡ Some x
stays {T} k x b c more put = subst (λ (h : List (Mark T)). item_at (items_put h) k ≡ Some x) more.1 (item_stays b.seen more.0 k x put)

module _ {T : Type 0} {size : ℕ} where
  pub made_first : {ks : List (Kind T)} {old new : SeatInfo (Mark T)} → Makes size ks old new → HasMade size ks old new
  made_first m = record { same_seat = m.same_seat; begins = m.begins; mine = m.mine; lawful = m.lawful; named = m.named }

  made_more : (ks ls : List (Kind T)) {old mid new : SeatInfo (Mark T)} → HasMade size ks old mid → Makes size ls mid new → HasMade size (ks ++ ls) old new
  made_more ks ls {old} {mid} {new} a b = grind (arith, common_steps, seat_info, append_assoc, made_by, mine_of, seat_of, made_by_append)

  made_last : (ks : List (Kind T)) (κ : Kind T) (ls : List (Kind T)) {old mid new : SeatInfo (Mark T)} → HasMade size ks old mid → Makes size (κ ∷ ls) mid new → Makes size (ks ++ κ ∷ ls) old new
  made_last ks κ ls {old} {mid} {new} a b = grind (arith, common_steps, made_more, last_of, made_by, last_behind)

  looked_on : (ks : List (Kind T)) {a b c : SeatInfo (Mark T)} → HasMade size ks a b → Makes size [] b c → HasMade size ks a c
  looked_on ks {a} {b} {c} h m = subst (λ (l : List (Kind T)). HasMade size l a c) (append-nil ks) (made_more ks [] h m)

  -- ---- looks

  pub looked_more : {a b c : SeatInfo (Mark T)} → Looked size a b → Makes size [] b c → Looked size a c
  looked_more {a} {b} {c} (inl same) m = inr (subst (λ (s : SeatInfo (Mark T)). HasMade size [] s c) same (made_first m))
  looked_more (inr h) m = inr (looked_on [] h m)

  -- what was put stays put
  pub put_on : {a b : SeatInfo (Mark T)} (k : ℕ) (x : T) → Makes size [] a b → item_at (items_put a.seen) k ≡ Some x → item_at (items_put b.seen) k ≡ Some x
  put_on {a} {b} k x m put = stays k x a b m.begins put

  -- ---- refused claims

  full_first : (r : RefusedInsertion) {old new : SeatInfo (Mark T)} → IsFull r → drawn_by old < old.stint → drawn_by new ≡ drawn_by old → Makes size (kinds_not_in r) old new → HasFoundFull size old new
  full_first r {old} {new} is within drawn m = record {
    within = within;
    drawn = drawn;
    first = r;
    later = [];
    full = All-cons IsFull r [] is (All-nil IsFull);
    made = subst (λ (ks : List (Kind T)). HasMade size ks old new) (sym (append-nil (kinds_not_in r))) (made_first m);
  }

  full_next : (r : RefusedInsertion) {old mid new : SeatInfo (Mark T)} → HasFoundFull size old mid → IsFull r → drawn_by new ≡ drawn_by mid → Makes size (kinds_not_in r) mid new → HasFoundFull size old new
  full_next r {old} {mid} {new} h is drawn m = record {
    within = h.within;
    drawn = drawn ∙ h.drawn;
    first = h.first;
    later = h.later ++ r ∷ [];
    full = All-push IsFull (h.first ∷ h.later) r h.full is;
    made = subst (λ (ks : List (Kind T)). HasMade size ks old new) (sym (flat_map_push kinds_not_in (h.first ∷ h.later) r)) (made_more (flat_map kinds_not_in (h.first ∷ h.later)) (kinds_not_in r) h.made m);
  }

  full_by : (r : RefusedInsertion) {old mid new : SeatInfo (Mark T)} → FullSoFar size old mid → IsFull r → drawn_by mid < mid.stint → drawn_by new ≡ drawn_by mid → Makes size (kinds_not_in r) mid new → HasFoundFull size old new
  full_by r {old} {mid} {new} (inl same) is within drawn m = subst (λ (s : SeatInfo (Mark T)). HasFoundFull size s new) same (full_first r is within drawn m)
  full_by r (inr h) is within drawn m = full_next r h is drawn m

  pub full_again : {upper : _} {old mid new : SeatInfo (Mark T)} → FullSoFar size old mid → drawn_by mid < mid.stint → drawn_by new ≡ drawn_by mid → RefusesFull size upper mid new → HasFoundFull size old new
  full_again so_far within drawn f = elim f.makes [ inl m ↦ full_by NotIn so_far tt within drawn m | inr m ↦ full_by WithdrawnIn so_far tt within drawn m ]

  pub full_more : {old mid new : SeatInfo (Mark T)} → HasFoundFull size old mid → drawn_by new ≡ drawn_by mid → Makes size [] mid new → HasFoundFull size old new
  full_more h drawn m = record { within = h.within; drawn = drawn ∙ h.drawn; first = h.first; later = h.later; full = h.full; made = looked_on (flat_map kinds_not_in (h.first ∷ h.later)) h.made m }

  empty_first : (r : RefusedDeletion) {old new : SeatInfo (Mark T)} → drawn_by old < old.stint → Makes size (kinds_not_out r) old new → HasFoundEmpty size old new
  empty_first r {old} {new} within m = record { within = within; first = r; later = []; made = subst (λ (ks : List (Kind T)). HasMade size ks old new) (sym (append-nil (kinds_not_out r))) (made_first m) }

  empty_next : (r : RefusedDeletion) {old mid new : SeatInfo (Mark T)} → HasFoundEmpty size old mid → Makes size (kinds_not_out r) mid new → HasFoundEmpty size old new
  empty_next r {old} {mid} {new} h m = record {
    within = h.within;
    first = h.first;
    later = h.later ++ r ∷ [];
    made = subst (λ (ks : List (Kind T)). HasMade size ks old new) (sym (flat_map_push kinds_not_out (h.first ∷ h.later) r)) (made_more (flat_map kinds_not_out (h.first ∷ h.later)) (kinds_not_out r) h.made m);
  }

  empty_by : (r : RefusedDeletion) {old mid new : SeatInfo (Mark T)} → EmptySoFar size old mid → drawn_by mid < mid.stint → Makes size (kinds_not_out r) mid new → HasFoundEmpty size old new
  empty_by r {old} {mid} {new} (inl same) within m = subst (λ (s : SeatInfo (Mark T)). HasFoundEmpty size s new) same (empty_first r within m)
  empty_by r (inr h) within m = empty_next r h m

  pub empty_again : {lower : _} {old mid new : SeatInfo (Mark T)} → EmptySoFar size old mid → drawn_by mid < mid.stint → RefusesEmpty size lower mid new → HasFoundEmpty size old new
  empty_again so_far within f = elim f.makes [ inl m ↦ empty_by NotOut so_far within m | inr m ↦ empty_by WithdrawnOut so_far within m ]

  pub empty_more : {old mid new : SeatInfo (Mark T)} → HasFoundEmpty size old mid → Makes size [] mid new → HasFoundEmpty size old new
  empty_more h m = record { within = h.within; first = h.first; later = h.later; made = looked_on (flat_map kinds_not_out (h.first ∷ h.later)) h.made m }

  -- ---- granted claims

  -- the history before the second mark of a claim stays the same as more is seen
  stood : (one two : Kind T) (a b c : SeatInfo (Mark T)) → HasMade size (one ∷ two ∷ []) a b → Begins b.seen c.seen → before_own 1 a c ≡ before_own 1 a b
  stood one two a b c h more =
      let name : b.name ≡ a.name = ap (λ (s : SeatInfo (Mark T)). s.name) h.same_seat in
      let mine : length (marks_of seat_of a.name b.seen) ≡ length (mine_of seat_of a) + 2 =
      ap (λ (k : ℕ). length (marks_of seat_of k b.seen)) (sym name) ∙ (ap length h.mine ∙ length-append (mine_of seat_of a) (made_by a.name (one ∷ two ∷ []))) in
      ap (before_mark seat_of a.name (length (mine_of seat_of a) + 1)) (sym more.1) ∙ before_mark-stays seat_of a.name b.seen more.0 (length (mine_of seat_of a) + 1) (omega (arith, mine))

  pub claimed_in : {k : ℕ} {x : T} {a b : SeatInfo (Mark T)} → ClaimsIn size k x a b → HasClaimedIn size k x a b
  claimed_in c = record { within = c.within; made = made_first c.makes; ticket = c.ticket; put = c.put }

  pub looked_in : {k : ℕ} {x : T} {a b c : SeatInfo (Mark T)} → HasClaimedIn size k x a b → Makes size [] b c → HasClaimedIn size k x a c
  looked_in {k} {x} {a} {b} {c} h m = record {
    within = h.within;
    made = looked_on (made.ClaimIn ∷ made.Put x ∷ []) h.made m;
    ticket = ap (count puts) (stood made.ClaimIn (made.Put x) a b c h.made m.begins) ∙ h.ticket;
    put = stays k x b c m.begins h.put;
  }

  inserted_in : {k : ℕ} {x : T} {a b c : SeatInfo (Mark T)} → HasClaimedIn size k x a b → Fills size k b c → Inserts size k x a c
  inserted_in {k} {x} {a} {b} {c} h f = record {
    within = h.within;
    makes = made_last (made.ClaimIn ∷ made.Put x ∷ []) (made.Fill k) (made.EndIn ∷ []) h.made f;
    ticket = ap (count puts) (stood made.ClaimIn (made.Put x) a b c h.made f.begins) ∙ h.ticket;
    put = stays k x b c f.begins h.put;
  }

  pub claimed_out : {k : ℕ} {a b : SeatInfo (Mark T)} → ClaimsOut size k a b → HasClaimedOut size k a b
  claimed_out c = record { within = c.within; item = c.item; made = made_first c.makes; ticket = c.ticket; put = c.put }

  pub looked_out : {k : ℕ} {a b c : SeatInfo (Mark T)} → HasClaimedOut size k a b → Makes size [] b c → HasClaimedOut size k a c
  looked_out {k} {a} {b} {c} h m = record {
    within = h.within;
    item = h.item;
    made = looked_on (made.ClaimOut ∷ made.Got h.item ∷ []) h.made m;
    ticket = ap (count gots) (stood made.ClaimOut (made.Got h.item) a b c h.made m.begins) ∙ h.ticket;
    put = stays k h.item b c m.begins h.put;
  }

  pub deleted_out : {k : ℕ} {x : T} {a b c : SeatInfo (Mark T)} → HasClaimedOut size k a b → Takes size k x b c → Deletes size k x a c
  deleted_out {k} {x} {a} {b} {c} h t =
      let same : h.item ≡ x = some_same (sym (stays k h.item b c t.makes.begins h.put) ∙ t.put) in
      record {
        within = h.within;
        makes = subst (λ (y : T). Makes size (made.ClaimOut ∷ made.Got y ∷ made.Take k ∷ made.EndOut ∷ []) a c) same
            (made_last (made.ClaimOut ∷ made.Got h.item ∷ []) (made.Take k) (made.EndOut ∷ []) h.made t.makes);
        ticket = ap (count gots) (stood made.ClaimOut (made.Got h.item) a b c h.made t.makes.begins) ∙ h.ticket;
        put = t.put;
      }
    where
      some_same : {A : Type 0} {y z : A} → Some y ≡ Some z → y ≡ z
      some_same e = cc

  -- ---- whole insertions after refused ones

  -- what is before a mark of the last call stays so, however many marks were left before it
  stood_after : (ks : List (Kind T)) {old mid : SeatInfo (Mark T)} (new : SeatInfo (Mark T)) → HasMade size ks old mid → (number : ℕ) → before_own (length ks + number) old new ≡ before_own number mid new
  stood_after ks {old} {mid} new h number =
      let name : mid.name ≡ old.name = ap (λ (s : SeatInfo (Mark T)). s.name) h.same_seat in
      let mine : length (mine_of seat_of mid) ≡ length (mine_of seat_of old) + length ks =
      ap length h.mine ∙ (length-append (mine_of seat_of old) (made_by old.name ks) ∙ ap (λ k. length (mine_of seat_of old) + k) (made_by_length old.name ks)) in
      let place : length (mine_of seat_of old) + (length ks + number) ≡ length (mine_of seat_of mid) + number = omega (arith, mine) in
      ap (λ k. before_mark seat_of k (length (mine_of seat_of old) + (length ks + number)) new.seen) (sym name) ∙ ap (λ k. before_mark seat_of mid.name k new.seen) place

  inserted_after : {k : ℕ} {x : T} {old mid new : SeatInfo (Mark T)} → HasFoundFull size old mid → Inserts size k x mid new → InsertsAfterFull size k x old new
  inserted_after {k} {x} {old} {mid} {new} h i = record {
    within = h.within;
    tries = record { refused = h.first ∷ h.later; makes = made_last (flat_map kinds_not_in (h.first ∷ h.later)) made.ClaimIn (made.Put x ∷ made.Fill k ∷ made.EndIn ∷ []) h.made i.makes };
    full = h.full;
    ticket = ap (count puts) (stood_after (flat_map kinds_not_in (h.first ∷ h.later)) new h.made 1) ∙ i.ticket;
    put = i.put;
  }

  inserted_at_once : {k : ℕ} {x : T} {old new : SeatInfo (Mark T)} → Inserts size k x old new → InsertsAfterFull size k x old new
  inserted_at_once i = record { within = i.within; tries = record { refused = []; makes = i.makes }; full = All-nil IsFull; ticket = i.ticket; put = i.put }

  pub inserted_at_last : {k : ℕ} {x : T} {old mid now new : SeatInfo (Mark T)} → FullSoFar size old mid → HasClaimedIn size k x mid now → Fills size k now new → InsertsAfterFull size k x old new
  inserted_at_last {k} {x} {old} {mid} {now} {new} (inl same) h f = subst (λ (s : SeatInfo (Mark T)). InsertsAfterFull size k x s new) same (inserted_at_once (inserted_in h f))
  inserted_at_last (inr so_far) h f = inserted_after so_far (inserted_in h f)

  closed_by : (r : RefusedInsertion) (κ : Kind T) (ks : List (Kind T)) {old mid new : SeatInfo (Mark T)} → IsClosed r → kinds_not_in r ≡ κ ∷ ks → FullSoFar size old mid → drawn_by mid < mid.stint → Makes size (kinds_not_in r) mid new → ClosesAfterFull size old new
  closed_by r κ ks {old} {mid} {new} is leads (inl same) within m =
      subst (λ (s : SeatInfo (Mark T)). ClosesAfterFull size s new) same (record { within = within; closed = r; is_closed = is; tries = record { refused = []; makes = m }; full = All-nil IsFull })
  closed_by r κ ks {old} {mid} {new} is leads (inr h) within m = record {
    within = h.within;
    closed = r;
    is_closed = is;
    tries = record {
      refused = h.first ∷ h.later;
      makes = subst (λ (l : List (Kind T)). Makes size (flat_map kinds_not_in (h.first ∷ h.later) ++ l) old new) (sym leads)
          (made_last (flat_map kinds_not_in (h.first ∷ h.later)) κ ks h.made (subst (λ (l : List (Kind T)). Makes size l mid new) leads m));
    };
    full = h.full;
  }

  pub closed_at_last : {old mid new : SeatInfo (Mark T)} → FullSoFar size old mid → drawn_by mid < mid.stint → RefusesClosed size mid new → ClosesAfterFull size old new
  closed_at_last so_far within c = elim c [ inl m ↦ closed_by ClosedIn made.Closed [] tt refl so_far within m | inr m ↦ closed_by WithdrawnLate made.LateIn (made.BackIn ∷ []) tt refl so_far within m ]
