-- What calls do to the contents of a queue that has one seat.
use Rattle.fak_processor.proofs.Common.{◌≡◌, ℕ, zero, suc, ◌+◌, ◌≤◌, ◌||◌, Bool, true, false, List, [], ◌∷◌, ◌++◌, Some, length, drop, refl, ap, sym, ◌∙◌, subst, arith, inl, inr, append_assoc, ℤ, pos, ◌≤ℤ◌, ints, flat_map-append, queue_rules, IsQueueHistory, count, puts, gots, lower_raise, lower_drop, lower_count, Has, item_in, item_at, items_put, contents, IsFairMark, SeatInfo, Kind, Mark, Makes, made_by, RefusesEmpty, ShutsAs, IsOnly, is_close, has_close, IsOnlySeat, Keeps, TakesFirst, FindsNone, Shuts, history_prefix, only_seen, only_still, only_lawful, common_steps}
use Rattle.std.proofs.lemmas.List.{drop-append-le, append-nil}
use Rattle.fak_model.specs.declared.queue.Kind.TheVariants as made
use Rattle.fak_model.proofs.QueueBackwards.{count_append, items_count}
use Rattle.fak_model.proofs.QueueLaws.{contents_fit}

-- ---- lists

item_at-drop : {T : Type 0} (xs : List T) (k : ℕ) (x : T) → item_at xs k ≡ Some x → drop k xs ≡ x ∷ drop (suc k) xs
item_at-drop [] k x e = absurd cc
item_at-drop (y ∷ xs) zero x e = let is : y ≡ x = cc in ap (λ z. z ∷ xs) is
item_at-drop (y ∷ xs) (suc k) x e = item_at-drop xs k x e

module _ {T : Type 0} (h l : List (Mark T)) where
  pub items_more : items_put (h ++ l) ≡ items_put h ++ items_put l
  items_more = flat_map-append item_in h l

  -- marks that put items, and get none
  pub contents_more : count gots h ≤ count puts h → count gots l ≡ 0 → contents (h ++ l) ≡ contents h ++ items_put l
  contents_more fit none = grind (arith, common_steps, count, gots, count_append, drop, items_put, items_more, drop-append-le, items_count)

  -- marks that get one item, and put none
  pub contents_less : (x : T) → count gots l ≡ 1 → items_put l ≡ [] → item_at (items_put h) (count gots h) ≡ Some x → contents h ≡ x ∷ contents (h ++ l)
  contents_less x one none first = grind (arith, common_steps, count, gots, count_append, items_put, items_more, append-nil, item_at-drop, drop)

-- ---- shut

or_more : (a b c : Bool) → ((a || b) || c) ≡ (a || (b || c))
or_more a b c = grind (arith, common_steps)

pub or_false : (a : Bool) → (a || false) ≡ a
or_false a = grind (arith, common_steps)

or_true : (a : Bool) → (a || true) ≡ true
or_true a = grind (arith, common_steps)

pub close_more : {T : Type 0} (h l : List (Mark T)) → has_close (h ++ l) ≡ (has_close h || has_close l)
close_more [] l = refl
close_more (m ∷ h) l = ap (λ b. is_close m.kind || b) (close_more h l) ∙ sym (or_more (is_close m.kind) (has_close h) (has_close l))

closes : {T : Type 0} (κ : Kind T) → κ ≡ made.Close → is_close κ ≡ true
closes κ e = ap is_close e

is_closed : {T : Type 0} (κ : Kind T) → is_close κ ≡ true → κ ≡ made.Close
is_closed κ e = grind (arith, common_steps, is_close)

pub has_then_close : {T : Type 0} (h : List (Mark T)) → Has made.Close h → has_close h ≡ true
has_then_close [] w = absurd w
has_then_close (m ∷ h) (inl e) = rw (closes m.kind e) refl
has_then_close (m ∷ h) (inr w) = ap (λ b. is_close m.kind || b) (has_then_close h w) ∙ or_true (is_close m.kind)

pub close_then_has : {T : Type 0} (h : List (Mark T)) → has_close h ≡ true → Has made.Close h
close_then_has [] e = absurd cc
close_then_has {T} (m ∷ h) e = by (λ t. close_then_has h t) (is_close m.kind) refl e
  where
    by : (has_close h ≡ true → Has made.Close h) → (b : Bool) → is_close m.kind ≡ b → (b || has_close h) ≡ true → Has made.Close (m ∷ h)
    by rest true is t = inl (is_closed m.kind is)
    by rest false is t = inr (rest t)

pub not_shut : {T : Type 0} (h : List (Mark T)) → (Has made.Close h → ⊥) → has_close h ≡ false
not_shut h none = grind (arith, common_steps, has_close, close_then_has)

-- ---- calls of the only seat

pub no_items : {T : Type 0} (xs : List T) → length xs ≡ 0 → xs ≡ []
no_items xs e = grind (arith, common_steps, length)

module _ {T : Type 0} {size : ℕ} (kinds : List (Kind T)) {old new : SeatInfo (Mark T)} (o : IsOnly (λ (m : Mark T). m.seat) old) (a : Makes size kinds old new) where
  now_seen : new.seen ≡ old.seen ++ made_by old.name kinds
  now_seen = only_seen o a

  law : IsQueueHistory size (old.seen ++ made_by old.name kinds)
  law = only_lawful o a

  fits : count gots old.seen ≤ count puts old.seen
  fits = (contents_fit size old.seen (history_prefix (queue_rules size) old.seen (made_by old.name kinds) law)).0

  pub items_added : count gots (made_by old.name kinds) ≡ 0 → contents new.seen ≡ contents old.seen ++ items_put (made_by old.name kinds)
  items_added none = ap (λ (h : List (Mark T)). contents h) now_seen ∙ contents_more old.seen (made_by old.name kinds) fits none

  pub items_same : count gots (made_by old.name kinds) ≡ 0 → items_put (made_by old.name kinds) ≡ [] → contents new.seen ≡ contents old.seen
  items_same none put = items_added none ∙ (ap (λ l. contents old.seen ++ l) put ∙ append-nil (contents old.seen))

  pub counted : (w : Kind T → ℕ) → count w new.seen ≡ count w old.seen + count w (made_by old.name kinds)
  counted w = ap (count w) now_seen ∙ count_append w old.seen (made_by old.name kinds)

  pub shut_after : has_close new.seen ≡ (has_close old.seen || has_close (made_by old.name kinds))
  shut_after = ap (λ (h : List (Mark T)). has_close h) now_seen ∙ close_more old.seen (made_by old.name kinds)

  pub shut_same : has_close (made_by old.name kinds) ≡ false → has_close new.seen ≡ has_close old.seen
  shut_same none = shut_after ∙ (ap (λ b. has_close old.seen || b) none ∙ or_false (has_close old.seen))

  -- a mark of the call is fair after what the seat had seen and the call's marks before it
  pub fair_after : (p : List (Mark T)) (m : Mark T) (q : List (Mark T)) → made_by old.name kinds ≡ p ++ m ∷ q → IsFairMark size (old.seen ++ p) m
  fair_after p m q e = law.fair (old.seen ++ p) m q (append_assoc old.seen p (m ∷ q) ∙ ap (λ l. old.seen ++ l) (sym e))

  -- the item that is got after marks that put and get none was the first
  pub first_left : (x : T) (p q : List (Mark T)) → made_by old.name kinds ≡ p ++ record { seat = old.name; kind = made.Got x } ∷ q → count gots p ≡ 0 → items_put p ≡ []
      → count gots (made_by old.name kinds) ≡ 1 → items_put (made_by old.name kinds) ≡ [] → contents old.seen ≡ x ∷ contents new.seen
  first_left x p q e none put one all =
      let f = (fair_after p (record { seat = old.name; kind = made.Got x }) q e).first_out in
      let same : items_put (old.seen ++ p) ≡ items_put old.seen = items_more old.seen p ∙ (ap (λ l. items_put old.seen ++ l) put ∙ append-nil (items_put old.seen)) in
      let number : count gots (old.seen ++ p) ≡ count gots old.seen = count_append gots old.seen p ∙ omega (arith, none) in
      let first : item_at (items_put old.seen) (count gots old.seen) ≡ Some x = ap (λ l. item_at l (count gots old.seen)) (sym same) ∙ (ap (item_at (items_put (old.seen ++ p))) (sym number) ∙ f) in
      contents_less old.seen (made_by old.name kinds) x one all first ∙ ap (λ (h : List (Mark T)). x ∷ contents h) (sym now_seen)

empty_where : {T : Type 0} {old : SeatInfo (Mark T)} → IsOnlySeat old → (lower_count old.seen ≤ℤ pos 0) → contents old.seen ≡ []
empty_where {T} {old} o low = let before = o.rest in no_items (contents old.seen) (omega (arith, ints, low, before))

module _ {T : Type 0} {size : ℕ} {old new : SeatInfo (Mark T)} (o : IsOnlySeat old) where
  -- marks that put nothing and get nothing, and change the lower count by nothing
  pub keeps : (kinds : List (Kind T)) → Makes size kinds old new → count gots (made_by old.name kinds) ≡ 0 → items_put (made_by old.name kinds) ≡ []
      → count lower_raise (made_by old.name kinds) ≡ count lower_drop (made_by old.name kinds) → has_close (made_by old.name kinds) ≡ false → Keeps old new
  keeps kinds a none put even unshut = grind (arith, common_steps, contents, items_same, counted, lower_raise, lower_drop, length, only_still, shut_same)

  pub takes_first : (k : ℕ) (x : T) → Makes size (made.ClaimOut ∷ made.Got x ∷ made.Take k ∷ made.EndOut ∷ []) old new → TakesFirst x old new
  takes_first k x a =
      let items : contents old.seen ≡ x ∷ contents new.seen = first_left (made.ClaimOut ∷ made.Got x ∷ made.Take k ∷ made.EndOut ∷ []) o.only a x (record { seat = old.name; kind = made.ClaimOut } ∷ []) _ refl refl refl refl refl in
      let up = counted (made.ClaimOut ∷ made.Got x ∷ made.Take k ∷ made.EndOut ∷ []) o.only a lower_raise in
      let down = counted (made.ClaimOut ∷ made.Got x ∷ made.Take k ∷ made.EndOut ∷ []) o.only a lower_drop in
      let before = o.rest in
      let len : length (contents old.seen) ≡ length (contents new.seen) + 1 = ap length items ∙ omega arith in
      record {
        only = record { only = only_still o.only a; rest = omega (arith, up, down, before, len) };
        items = items;
        shut = shut_same (made.ClaimOut ∷ made.Got x ∷ made.Take k ∷ made.EndOut ∷ []) o.only a refl;
      }

  pub finds_none : {lower : ℤ} → RefusesEmpty size lower old new → FindsNone old new
  finds_none {lower} r = elim r.makes [
    | inl a ↦ (let fair = fair_after (made.NoItem ∷ []) o.only a [] (record { seat = old.name; kind = made.NoItem }) _ refl in
        record { keeps = keeps (made.NoItem ∷ []) a refl refl refl refl; empty = empty_where o (subst (λ (h : List (Mark T)). lower_count h ≤ℤ pos 0) (append-nil old.seen) fair.answer) })
    | inr a ↦ (let fair = fair_after (made.OverOut ∷ made.BackOut ∷ []) o.only a [] (record { seat = old.name; kind = made.OverOut }) _ refl in
        record { keeps = keeps (made.OverOut ∷ made.BackOut ∷ []) a refl refl refl refl; empty = empty_where o (subst (λ (h : List (Mark T)). lower_count h ≤ℤ pos 0) (append-nil old.seen) fair.answer) })
  ]

module _ {T : Type 0} (size : ℕ) {old new : SeatInfo (Mark T)} (o : IsOnlySeat old) where
  pub shuts : (first : Bool) → ShutsAs size first old new → Shuts old new
  shuts first s = by (made_first first s)
    where
      made_first : (first : Bool) → ShutsAs size first old new → Makes size (made.Close ∷ []) old new
      made_first first s = grind (arith, common_steps)

      by : Makes size (made.Close ∷ []) old new → Shuts old new
      by a =
          let items : contents new.seen ≡ contents old.seen = items_same (made.Close ∷ []) o.only a refl refl in
          let up = counted (made.Close ∷ []) o.only a lower_raise in
          let down = counted (made.Close ∷ []) o.only a lower_drop in
          let before = o.rest in
          let len : length (contents new.seen) ≡ length (contents old.seen) = ap length items in
          record {
            only = record { only = only_still o.only a; rest = omega (arith, up, down, before, len) };
            items = items;
            closed = shut_after (made.Close ∷ []) o.only a ∙ or_true (has_close old.seen);
          }

-- ---- the same after refusals

pub keeps_then : {T : Type 0} {old mid new : SeatInfo (Mark T)} → Keeps old mid → Keeps mid new → Keeps old new
keeps_then a b = record { only = b.only; items = b.items ∙ a.items; shut = b.shut ∙ a.shut }
