-- From a claim and the rest of the call to the whole call.
use Rattle.fak_queue.proofs.Common.{◌≡◌, ℕ, zero, suc, ◌+◌, ◌<◌, ◌==◌, Bool, true, false, cond, List, [], ◌∷◌, ◌++◌, length, length-append, refl, ap, sym, ◌∙◌, subst, arith, Some, Kind, Mark, queue_rules, count, puts, gots, items_put, item_in, item_at, marks_of, SeatInfo, Appends, mine_of, before_mark, appends_then, seat_of, made_by, Makes, before_own, ClaimsIn, ClaimsOut, Fills, Takes, Inserts, Deletes, flat_map-append}
use Rattle.fak_model.specs.declared.queue.Kind.TheVariants as made

-- ---- what is before a mark stays so as more is seen

pub before_mark-stays : {M : Type 0} (seat_of : M → ℕ) (name : ℕ) (h rest : List M) (i : ℕ) → i < length (marks_of seat_of name h) → before_mark seat_of name i (h ++ rest) ≡ before_mark seat_of name i h
before_mark-stays seat_of name [] rest i lt = absurd (omega (arith, lt))
before_mark-stays seat_of name (m ∷ h) rest zero lt = by (seat_of m == name) refl lt (λ low. before_mark-stays seat_of name h rest zero low)
  where
    by : (b : Bool) → (seat_of m == name) ≡ b → 0 < length (marks_of seat_of name (m ∷ h)) → (0 < length (marks_of seat_of name h) → before_mark seat_of name zero (h ++ rest) ≡ before_mark seat_of name zero h)
        → cond (seat_of m == name) [] (m ∷ before_mark seat_of name zero (h ++ rest)) ≡ cond (seat_of m == name) [] (m ∷ before_mark seat_of name zero h)
    by true t low more = rw t refl
    by false t low more = rw t (ap (λ l. m ∷ l) (more (rw t at low)))
before_mark-stays seat_of name (m ∷ h) rest (suc i) lt = ap (λ l. m ∷ l) (by (seat_of m == name) refl lt (λ j low. before_mark-stays seat_of name h rest j low))
  where
    by : (b : Bool) → (seat_of m == name) ≡ b → suc i < length (marks_of seat_of name (m ∷ h)) → ((j : ℕ) → j < length (marks_of seat_of name h) → before_mark seat_of name j (h ++ rest) ≡ before_mark seat_of name j h)
        → cond (seat_of m == name) (before_mark seat_of name i (h ++ rest)) (before_mark seat_of name (suc i) (h ++ rest)) ≡ cond (seat_of m == name) (before_mark seat_of name i h) (before_mark seat_of name (suc i) h)
    by true t low more = rw t (more i (let less : suc i < suc (length (marks_of seat_of name h)) = rw t at low in omega (arith, less)))
    by false t low more = rw t (more (suc i) (rw t at low))

pub item_at-front : {T : Type 0} (xs ys : List T) (k : ℕ) (x : T) → item_at xs k ≡ Some x → item_at (xs ++ ys) k ≡ Some x
item_at-front [] ys k x e = absurd cc
item_at-front (y ∷ xs) ys zero x e = e
item_at-front (y ∷ xs) ys (suc k) x e = item_at-front xs ys k x e

-- the item of a ticket stays as more is seen
pub item_stays : {T : Type 0} (h rest : List (Mark T)) (k : ℕ) (x : T) → item_at (items_put h) k ≡ Some x → item_at (items_put (h ++ rest)) k ≡ Some x
item_stays h rest k x e = ap (λ l. item_at l k) (flat_map-append item_in h rest) ∙ item_at-front (items_put h) (items_put rest) k x e

-- ---- parts of a call, one after another

module _ {T : Type 0} (size : ℕ) (a b d : SeatInfo (Mark T)) where
  module _ (one two : Kind T) (claim : Makes size (one ∷ two ∷ []) a b) (three four : Kind T) (end : Makes size (three ∷ four ∷ []) b d) where
    name_b : b.name ≡ a.name
    name_b = ap (λ (s : SeatInfo (Mark T)). s.name) claim.same_seat

    rest_b : Appends (queue_rules size) (made_by a.name (three ∷ four ∷ [])) b d
    rest_b = subst (λ (k : ℕ). Appends (queue_rules size) (made_by k (three ∷ four ∷ [])) b d) name_b end

    pub whole : Makes size (one ∷ two ∷ three ∷ four ∷ []) a d
    whole = appends_then (queue_rules size) (made_by a.name (one ∷ two ∷ [])) (record { seat = a.name; kind = three }) (made_by a.name (four ∷ [])) a b d claim rest_b

    pub stood : before_own 1 a d ≡ before_own 1 a b
    stood =
        let more = rest_b.begins in
        let mine : length (marks_of seat_of a.name b.seen) ≡ length (mine_of seat_of a) + 2 =
        ap (λ (k : ℕ). length (marks_of seat_of k b.seen)) (sym name_b) ∙ (ap length claim.mine ∙ length-append (mine_of seat_of a) (made_by a.name (one ∷ two ∷ []))) in
        ap (before_mark seat_of a.name (length (mine_of seat_of a) + 1)) (sym more.1) ∙ before_mark-stays seat_of a.name b.seen more.0 (length (mine_of seat_of a) + 1) (omega (arith, mine))

  pub inserted : (k : ℕ) (x : T) → ClaimsIn size k x a b → Fills size k b d → Inserts size k x a d
  inserted k x claim end = record {
    within = claim.within;
    makes = whole made.ClaimIn (made.Put x) claim.makes (made.Fill k) made.EndIn end;
    ticket = ap (count puts) (stood made.ClaimIn (made.Put x) claim.makes (made.Fill k) made.EndIn end) ∙ claim.ticket;
    put = (let more = (rest_b made.ClaimIn (made.Put x) claim.makes (made.Fill k) made.EndIn end).begins in subst (λ h. item_at (items_put h) k ≡ Some x) more.1 (item_stays b.seen more.0 k x claim.put));
  }

  pub deleted : (k : ℕ) (x : T) → ClaimsOut size k a b → Takes size k x b d → Deletes size k x a d
  deleted k x claim end =
      let more = rest_b made.ClaimOut (made.Got claim.item) claim.makes (made.Take k) made.EndOut end.makes in
      let kept : item_at (items_put d.seen) k ≡ Some claim.item = subst (λ h. item_at (items_put h) k ≡ Some claim.item) more.begins.1 (item_stays b.seen more.begins.0 k claim.item claim.put) in
      let same : claim.item ≡ x = some_same (sym kept ∙ end.put) in
      record {
        within = claim.within;
        makes = subst (λ y. Makes size (made.ClaimOut ∷ made.Got y ∷ made.Take k ∷ made.EndOut ∷ []) a d) same (whole made.ClaimOut (made.Got claim.item) claim.makes (made.Take k) made.EndOut end.makes);
        ticket = ap (count gots) (stood made.ClaimOut (made.Got claim.item) claim.makes (made.Take k) made.EndOut end.makes) ∙ claim.ticket;
        put = end.put;
      }
    where
      some_same : {A : Type 0} {y z : A} → Some y ≡ Some z → y ≡ z
      some_same e = cc
