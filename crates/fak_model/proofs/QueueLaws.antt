-- The laws of legal histories, from the literal definition.
use Rattle.fak_model.proofs.Common.{ints, reverse-reverse, Kind, Fill, ClaimOut, Got, Take, Mark, seat_words, IsAtRest, count, puts, gots, upper_raise, upper_drop, lower_raise, lower_drop, Has, ClaimedOut, upper_count, lower_count, items_put, contents, words_of_call, queue_rules, IsQueueHistory, ◌≡◌, ◌≢◌, ◌⊎◌, ℕ, ◌<◌, ◌≤◌, List, [], ◌∷◌, ◌++◌, length, length-drop, reverse, refl, ap, sym, ◌∙◌, subst, arith, inl, inr, append_assoc, pos, All, after, stage, MayFollow, IsLegalPast, HasNoOpenCall, common_steps}
use Rattle.fak_model.specs.QueueOrder.{Deletion, KeepsCallOrder}
use Rattle.fak_model.proofs.Appending.{history_prefix}
use Rattle.fak_model.proofs.Places.{rests}
use Rattle.fak_model.proofs.QueueWords.{needs, leads, call_runs, at_idle}
use Rattle.fak_model.proofs.QueueBackwards.{count_append, count_reverse, has_reverse, items_count, last_of}
use Rattle.fak_model.proofs.Reversing.{All-reverse, reverse_split}
use Rattle.fak_model.proofs.QueueLiteral.{place_of, to_past}
use Rattle.fak_model.proofs.QueueCounts.{contents_bounded, whole_counts}
use Rattle.fak_model.proofs.QueueTickets.{fill_below, take_below}

pub contents_fit : {T : Type 0} (size : ℕ) (h : List (Mark T)) → IsQueueHistory size h → (count gots h ≤ count puts h) × (length (contents h) ≤ size)
contents_fit size h law = grind (arith, common_steps, contents_bounded, reverse, to_past, count_reverse, gots, puts, length-drop, count, items_put, items_count)

rest_idle : {T : Type 0} (size : ℕ) (h : List (Mark T)) → IsAtRest (queue_rules size) h → HasNoOpenCall (reverse h)
rest_idle size h rest s = at_idle (stage (reverse h) s)
    (sym (rests needs leads words_of_call call_runs (seat_words (queue_rules size) s h) (rest s)).1 ∙ sym (place_of size s h))

pub at_rest : {T : Type 0} (size : ℕ) (h : List (Mark T)) → IsQueueHistory size h → IsAtRest (queue_rules size) h → (upper_count h ≡ pos (length (contents h))) × (lower_count h ≡ pos (length (contents h)))
at_rest size h law rest =
    let b = contents_bounded size (reverse h) (to_past size h law) in
    let c = whole_counts size (reverse h) (to_past size h law) (rest_idle size h rest) in
    let n = length-drop (count gots h) (items_put h) in
    let k = items_count h in
    let g = count_reverse gots h in
    let p = count_reverse puts h in
    let ur = count_reverse upper_raise h in
    let ud = count_reverse upper_drop h in
    let lr = count_reverse lower_raise h in
    let ld = count_reverse lower_drop h in
    (omega (arith, ints), omega (arith, ints))

-- ---- order

past_follows : {A : Type 0} (size : ℕ) (a : List (Mark A)) (m : Mark A) (b : List (Mark A)) → IsLegalPast size (a ++ (m ∷ b)) → MayFollow size b m.seat m.kind
past_follows size [] m b l = l.0
past_follows size (n ∷ a) m b l = past_follows size a m b l.1

has_at : {T : Type 0} (p : List (Mark T)) (m : Mark T) (q : List (Mark T)) (κ : Kind T) → m.kind ≡ κ → Has κ (p ++ m ∷ q)
has_at [] m q κ e = inl e
has_at (n ∷ p) m q κ e = inr (has_at p m q κ e)

-- the Got with ticket i
pub record TheGot {T : Type 0} (past : List (Mark T)) (i : ℕ) : Type 0 where
  pub newer : List (Mark T)
  pub m : Mark T
  pub older : List (Mark T)
  pub x : T
  pub is : past ≡ newer ++ m ∷ older
  pub kind : m.kind ≡ Got x
  pub number : count gots older ≡ i

is_got : {T : Type 0} (κ : Kind T) → (gots κ ≡ 0) ⊎ ((gots κ ≡ 1) × ((x : T) × (κ ≡ Got x)))
is_got κ = grind (arith, common_steps, gots)

below_or_not : (i n : ℕ) → (i < n) ⊎ (n ≤ i)
below_or_not i n = grind arith

the_got : {T : Type 0} (past : List (Mark T)) (i : ℕ) → i < count gots past → TheGot past i
the_got [] i l = absurd (omega arith)
the_got {T} (m ∷ h) i l = elim (below_or_not i (count gots h)) [
  | inl b ↦ (let g = the_got h i b in record { newer = m ∷ g.newer; m = g.m; older = g.older; x = g.x; is = ap (λ t. m ∷ t) g.is; kind = g.kind; number = g.number })
  | inr b ↦ elim (is_got m.kind) [
    | inl z ↦ absurd (omega arith)
    | inr w ↦ record { newer = []; m = m; older = h; x = w.1.0; is = refl; kind = w.1.1; number = omega arith }
  ]
]

after_claimed_out : {T : Type 0} (h : List (Mark T)) (κ : Kind T) → after h κ ≡ ClaimedOut → κ ≡ ClaimOut
after_claimed_out h κ e = grind (arith, common_steps, after)

-- if the item of a ticket was got, its deletion has started
deletion_of : {T : Type 0} (size : ℕ) (h : List (Mark T)) (i : ℕ) → IsLegalPast size (reverse h) → i < count gots (reverse h) → Deletion h i
deletion_of {T} size h i l b =
    let g = the_got (reverse h) i b in
    let may = past_follows size g.newer g.m g.older (subst (IsLegalPast size) g.is l) in
    let may' : MayFollow size g.older g.m.seat (Got g.x) = subst (MayFollow size g.older g.m.seat) g.kind may in
    elim (last_of g.older g.m.seat) [
      | inl none ↦ absurd (cc (none, may'.next))
      | inr k ↦ (let claims : k.m.kind ≡ ClaimOut = after_claimed_out k.older k.m.kind (sym k.stands ∙ may'.next) in
          let split : reverse k.older ++ k.m ∷ (reverse k.newer ++ g.m ∷ reverse g.newer) ≡ h =
          sym (append_assoc (reverse k.older) (k.m ∷ reverse k.newer) (g.m ∷ reverse g.newer))
          ∙ (ap (λ t. t ++ g.m ∷ reverse g.newer) (sym (reverse_split k.newer k.m k.older) ∙ ap reverse (sym k.is))
          ∙ (sym (reverse_split g.newer g.m g.older) ∙ (ap reverse (sym g.is) ∙ reverse-reverse h))) in
          record {
            x = g.x;
            claim = record {
              before = reverse k.older;
              m = k.m;
              between = reverse k.newer;
              n = g.m;
              after = reverse g.newer;
              stands = split;
              first_is = claims;
              second_is = g.kind;
              same = sym k.his;
              none = subst (λ s. All (λ (o : Mark T). o.seat ≢ s) (reverse k.newer)) (sym k.his) (All-reverse (λ (o : Mark T). o.seat ≢ g.m.seat) k.newer k.last);
            };
            ticket = ap (count gots) (sym (reverse_split k.newer k.m k.older)) ∙ (count_reverse gots (k.newer ++ k.m ∷ k.older) ∙ (ap (count gots) (sym k.is) ∙ g.number));
          })
    ]

pub in_paper_order : {T : Type 0} (size : ℕ) (h : List (Mark T)) → IsQueueHistory size h → KeepsCallOrder h
in_paper_order {T} size h law p q of_q ended now later is done =
    let c = of_q.claim in
    let first : IsLegalPast size (reverse c.before) = to_past size c.before (history_prefix (queue_rules size) c.before (c.m ∷ (c.between ++ c.n ∷ c.after)) (subst (IsQueueHistory size) (sym c.stands) law)) in
    let legal : IsLegalPast size (reverse now) = to_past size now (history_prefix (queue_rules size) now later (subst (IsQueueHistory size) (sym is) law)) in
    let Filled : Has (Fill p) c.before = subst (Has (Fill p)) ended.stands (has_at ended.before ended.m (ended.between ++ ended.n ∷ ended.after) (Fill p) ended.first_is) in
    let Taken : Has (Take q) now = subst (Has (Take q)) done.stands (has_at done.before done.m (done.between ++ done.n ∷ done.after) (Take q) done.first_is) in
    let a = fill_below size (reverse c.before) first p (has_reverse (Fill p) c.before Filled) in
    let b = take_below size (reverse now) legal q (has_reverse (Take q) now Taken) in
    let n = count_append puts c.before (c.m ∷ c.between) in
    let t = of_q.ticket in
    deletion_of size now p legal (omega (arith, a, b, n, t, count_reverse puts c.before))
