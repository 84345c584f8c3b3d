-- The names of a bundle by their number, and the marks of its steps, name by name.
use Rattle.std.specs.Prelude.{zero, suc, take, drop, slice_index_or}
use Rattle.std.proofs.lemmas.List.{append-nil, reverse-append}
use Rattle.fak_model.proofs.Deciding.{same_or_not}
use Rattle.fak_model.specs.Queue.{item_in as put_in}
use Rattle.fak_model.specs.Seats.{Begins}
use Rattle.fak_model.proofs.QueueBackwards.{item_at_new, item_at_old}
use Rattle.fak_model.proofs.Seats.{begins_self}
use Rattle.fak_queue.proofs.BurstNames.{begins_trans}
use Rattle.fak_core.specs.QueueBlocks.{names_of, AreApart, all_at, marks_back}
use Rattle.fak_queue.specs.Bursts.{LeavesMarks, tickets_of}
use Rattle.fak_queue.specs.Bundles.{IsLawful, MadeFrom}
use Rattle.fak_queue.proofs.Common.{items_put, flat_map-append, QueueHolder, Kind, Mark, Phase, IsPost, mark, seat_of, made_by, marks_of, item_at, In, ◌≡◌, ◌≢◌, ℕ, ◌+◌, ◌<◌, ◌≤◌, ◌==◌, true, false, List, [], ◌∷◌, ◌++◌, length, reverse, refl, sym, ap, ◌∙◌, subst, inl, inr, arith, nat_tests, Some}

-- ---- numbers

pub item_in : (l : List ℕ) (i n : ℕ) → item_at l i ≡ Some n → In n l
item_in [] i n e = absurd cc
item_in (x ∷ l) zero n e = inl (let f : Some x ≡ Some n = e in cc)
item_in (x ∷ l) (suc i) n e = inr (item_in l i n e)

pub number_of : (l : List ℕ) (n : ℕ) → In n l → (i : ℕ) × (item_at l i ≡ Some n)
number_of [] n i = absurd i
number_of (x ∷ l) n (inl e) = (zero, ap (λ z. Some z) (sym e))
number_of (x ∷ l) n (inr i) = let k = number_of l n i in (suc k.0, k.1)

pub item_low : {A : Type 0} (l : List A) (i : ℕ) (n : A) → item_at l i ≡ Some n → i < length l
item_low [] i n e = absurd cc
item_low (x ∷ l) zero n e = omega arith
item_low (x ∷ l) (suc i) n e = omega (arith, item_low l i n e)

pub item_is : (l : List ℕ) (i : ℕ) → i < length l → item_at l i ≡ Some (slice_index_or l i 0)
item_is [] i low = absurd (omega (arith, low))
item_is (x ∷ l) zero low = refl
item_is (x ∷ l) (suc i) low = item_is l i (omega (arith, low))

pub one_number : (l : List ℕ) → AreApart l → (i j n : ℕ) → item_at l i ≡ Some n → item_at l j ≡ Some n → i ≡ j
one_number [] apart i j n e f = absurd cc
one_number (x ∷ l) apart zero zero n e f = refl
one_number (x ∷ l) apart zero (suc j) n e f = absurd (apart.0 (subst (λ z. In z l) (let g : Some x ≡ Some n = e in let h : x ≡ n = cc in sym h) (item_in l j n f)))
one_number (x ∷ l) apart (suc i) zero n e f = absurd (apart.0 (subst (λ z. In z l) (let g : Some x ≡ Some n = f in let h : x ≡ n = cc in sym h) (item_in l i n e)))
one_number (x ∷ l) apart (suc i) (suc j) n e f = ap suc (one_number l apart.1 i j n e f)

pub item_drop : {A : Type 0} (l : List A) (a i : ℕ) → item_at (drop a l) i ≡ item_at l (a + i)
item_drop l zero i = let e : i ≡ 0 + i = omega arith in ap (item_at l) e
item_drop [] (suc a) i = refl
item_drop (x ∷ l) (suc a) i = let e : suc (a + i) ≡ suc a + i = omega arith in item_drop l a i ∙ ap (item_at (x ∷ l)) e

pub item_take : {A : Type 0} (l : List A) (b i : ℕ) → i < b → item_at (take b l) i ≡ item_at l i
item_take l zero i low = absurd (omega (arith, low))
item_take [] (suc b) i low = refl
item_take (x ∷ l) (suc b) zero low = refl
item_take (x ∷ l) (suc b) (suc i) low = item_take l b i (omega (arith, low))

pub first_of : {A : Type 0} (l : List A) → 0 < length l → (x : A) × (rest : List A) × (l ≡ x ∷ rest)
first_of [] some = absurd (omega (arith, some))
first_of (x ∷ l) some = (x, l, refl)

-- ---- names with their tickets

pub tickets_names : (l : List ℕ) (k : ℕ) → names_of (tickets_of l k) ≡ l
tickets_names [] k = refl
tickets_names (n ∷ l) k = ap (λ z. n ∷ z) (tickets_names l (k + 1))

pub tickets_length : (l : List ℕ) (k : ℕ) → length (tickets_of l k) ≡ length l
tickets_length [] k = refl
tickets_length (n ∷ l) k = ap suc (tickets_length l (k + 1))

pub tickets_item : (l : List ℕ) (k i n : ℕ) → item_at l i ≡ Some n → (t : ℕ) × (item_at (tickets_of l k) i ≡ Some (n, t))
tickets_item [] k i n e = absurd cc
tickets_item (x ∷ l) k zero n e = (k, let g : Some x ≡ Some n = e in let h : x ≡ n = cc in ap (λ (z : ℕ). Some (z, k)) h)
tickets_item (x ∷ l) k (suc i) n e = tickets_item l (k + 1) i n e

pub in_tickets : {T : Type 0} (f : ℕ → Phase T) (l : List ℕ) (k t : ℕ) (w : Phase T) → IsPost t w (all_at f (tickets_of l k)) → (i : ℕ) × (item_at l i ≡ Some t) × (w ≡ f (k + i))
in_tickets f [] k t w o = absurd o
in_tickets f (n ∷ l) k t w (inl e) = (zero, ap (λ z. Some z) e.0, sym e.1 ∙ (let z : k ≡ k + 0 = omega arith in ap f z))
in_tickets f (n ∷ l) k t w (inr o) = let r = in_tickets f l (k + 1) t w o in (suc r.0, r.1, r.2 ∙ (let j : ℕ = r.0 in let z : k + 1 + j ≡ k + suc j = omega arith in ap f z))

-- ---- marks of a name

-- the same marks, that of the first name first
abbrev pub marks_on : {A B : Type 0} → (B → Kind A) → List (ℕ × B) → List (Mark A)
marks_on f [] = []
marks_on f (s ∷ ss) = mark s.0 (f s.1) ∷ marks_on f ss

pub marks_turned : {A B : Type 0} (f : B → Kind A) (ss : List (ℕ × B)) → reverse (marks_back f ss) ≡ marks_on f ss
marks_turned f [] = refl
marks_turned f (s ∷ ss) = reverse-append (marks_back f ss) (mark s.0 (f s.1) ∷ []) ∙ ap (λ l. mark s.0 (f s.1) ∷ l) (marks_turned f ss)

pub own_first : {A : Type 0} (n : ℕ) (κ : Kind A) (h : List (Mark A)) → marks_of seat_of n (mark n κ ∷ h) ≡ mark n κ ∷ marks_of seat_of n h
own_first n κ h = let t : (n == n) ≡ true = grind (arith, nat_tests) in rw t refl

pub other_first : {A : Type 0} (n t : ℕ) (κ : Kind A) (h : List (Mark A)) → n ≢ t → marks_of seat_of n (mark t κ ∷ h) ≡ marks_of seat_of n h
other_first n t κ h ne = let b : (t == n) ≡ false = grind (arith, nat_tests) in rw b refl

pub no_marks : {A B : Type 0} (f : B → Kind A) (ss : List (ℕ × B)) (n : ℕ) → (In n (names_of ss) → ⊥) → marks_of seat_of n (marks_on f ss) ≡ []
no_marks f [] n out = refl
no_marks f (s ∷ ss) n out = other_first n s.0 (f s.1) (marks_on f ss) (λ e. out (inl e)) ∙ no_marks f ss n (λ i. out (inr i))

-- a name that has one ticket makes one mark
pub ticket_mark : {A : Type 0} (f : ℕ → Kind A) (l : List ℕ) (k i n : ℕ) → AreApart l → item_at l i ≡ Some n → marks_of seat_of n (marks_on f (tickets_of l k)) ≡ mark n (f (k + i)) ∷ []
ticket_mark f [] k i n apart e = absurd cc
ticket_mark {A} f (x ∷ l) k zero n apart e =
    let same : x ≡ n = (let g : Some x ≡ Some n = e in cc) in
    let none : marks_of seat_of x (marks_on f (tickets_of l (k + 1))) ≡ [] = no_marks f (tickets_of l (k + 1)) x (λ i. apart.0 (subst (In x) (tickets_names l (k + 1)) i)) in
    let here : marks_of seat_of x (marks_on f (tickets_of (x ∷ l) k)) ≡ mark x (f (k + 0)) ∷ [] = own_first x (f k) (marks_on f (tickets_of l (k + 1))) ∙ ((λ i. mark x (f (sum_zero k i)) ∷ none i)) in
    subst (λ z. marks_of seat_of z (marks_on f (tickets_of (x ∷ l) k)) ≡ mark z (f (k + 0)) ∷ []) same here
  where
    sum_zero : (k : ℕ) → k ≡ k + 0
    sum_zero k = omega arith
ticket_mark {A} f (x ∷ l) k (suc i) n apart e =
    other_first n x (f k) (marks_on f (tickets_of l (k + 1))) (λ z. apart.0 (subst (λ y. In y l) z (item_in l i n e))) ∙ (ticket_mark f l (k + 1) i n apart.1 e ∙ (let z : k + 1 + i ≡ k + suc i = omega arith in ap (λ z. mark n (f z) ∷ []) z))

pub drop_next : {A : Type 0} (l : List A) (d : ℕ) (x : A) (rest : List A) → drop d l ≡ x ∷ rest → drop (suc d) l ≡ rest
drop_next [] zero x rest e = absurd cc
drop_next [] (suc d) x rest e = absurd cc
drop_next (y ∷ l) zero x rest e = cc
drop_next (y ∷ l) (suc d) x rest e = drop_next l d x rest e

-- ---- what names make, one after another

-- nothing was made yet
pub made_none : {T : Type 0} {size seats : ℕ} (names : List ℕ) (lo : ℕ) (kinds_at : ℕ → List (Kind T)) (m : QueueHolder T) → IsLawful size seats m.0 → MadeFrom size seats names lo lo kinds_at m m
made_none names lo kinds_at m law = record {
  names_are = refl;
  left = refl;
  begins = begins_self (reverse m.0.seen);
  inside = λ i n e a b. absurd (omega (arith, a, b));
  outside = λ i n e o. refl;
  lawful = law;
}

among : {T : Type 0} {names : List ℕ} (a : QueueHolder T) → a.0.names ≡ names → (i n : ℕ) → item_at names i ≡ Some n → In n a.0.names
among {names = names} a own i n e = subst (In n) (sym own) (item_in names i n e)

module _ {T : Type 0} {size seats : ℕ} {names : List ℕ} {lo f : ℕ} {kinds_at : ℕ → List (Kind T)} {m a c : QueueHolder T} (so : MadeFrom size seats names lo f kinds_at m a) (own : a.0.names ≡ names) (left : c.0.left ≡ a.0.left) where
  -- a step that leaves no mark
  pub made_still : LeavesMarks size seats [] (a.0, []) (c.0, []) → MadeFrom size seats names lo f kinds_at m c
  made_still k =
      let same : (i n : ℕ) → item_at names i ≡ Some n → marks_of seat_of n (reverse c.0.seen) ≡ marks_of seat_of n (reverse a.0.seen) = λ i n e. k.mine n (among a own i n e) ∙ append-nil (marks_of seat_of n (reverse a.0.seen)) in
      record {
        names_are = k.names ∙ so.names_are;
        left = left ∙ so.left;
        begins = begins_trans (reverse m.0.seen) (reverse a.0.seen) (reverse c.0.seen) so.begins k.begins;
        inside = λ i n e low high. same i n e ∙ so.inside i n e low high;
        outside = λ i n e o. same i n e ∙ so.outside i n e o;
        lawful = record { lawful = k.lawful; named = k.named };
      }

  -- the next name makes its mark
  pub made_next : AreApart names → (n : ℕ) (κ : Kind T) → item_at names f ≡ Some n → lo ≤ f → kinds_at f ≡ κ ∷ [] → LeavesMarks size seats (mark n κ ∷ []) (a.0, []) (c.0, []) → MadeFrom size seats names lo (suc f) kinds_at m c
  made_next apart n κ here low is k =
      let mine : (i t : ℕ) → item_at names i ≡ Some t → marks_of seat_of t (reverse c.0.seen) ≡ marks_of seat_of t (reverse a.0.seen) ++ marks_of seat_of t (mark n κ ∷ []) = λ i t e. k.mine t (among a own i t e) in
      let other : (i t : ℕ) → item_at names i ≡ Some t → i ≢ f → marks_of seat_of t (reverse c.0.seen) ≡ marks_of seat_of t (reverse a.0.seen) = λ i t e ne.
      mine i t e ∙ (ap (λ h. marks_of seat_of t (reverse a.0.seen) ++ h) (other_first t n κ [] (λ z. ne (one_number names apart i f t e (subst (λ y. item_at names f ≡ Some y) (sym z) here)))) ∙ append-nil (marks_of seat_of t (reverse a.0.seen))) in
      record {
        names_are = k.names ∙ so.names_are;
        left = left ∙ so.left;
        begins = begins_trans (reverse m.0.seen) (reverse a.0.seen) (reverse c.0.seen) so.begins k.begins;
        inside = λ i t e above below. elim (same_or_not i f) [
          | inl z ↦ (
              let same : t ≡ n = (let g : Some t ≡ Some n = sym e ∙ (ap (item_at names) z ∙ here) in cc) in
              let own : marks_of seat_of t (mark n κ ∷ []) ≡ made_by t (kinds_at i) = subst (λ y. marks_of seat_of y (mark n κ ∷ []) ≡ made_by y (kinds_at i)) (sym same) (own_first n κ [] ∙ sym (ap (made_by n) (ap kinds_at z ∙ is))) in
              mine i t e ∙ ((λ j. so.outside i t e (inr (omega (arith, z))) j ++ own j)))
          | inr ne ↦ other i t e ne ∙ so.inside i t e above (omega (arith, below, ne))
        ];
        outside = λ i t e o. other i t e (λ z. elim o [ inl x ↦ absurd (omega (arith, x, z, low)) | inr x ↦ absurd (omega (arith, x, z)) ]) ∙ so.outside i t e (elim o [ inl x ↦ inl x | inr x ↦ inr (omega (arith, x)) ]);
        lawful = record { lawful = k.lawful; named = k.named };
      }

-- ---- items

pub item_push : {A : Type 0} (l : List A) (x : A) (i : ℕ) → i < length l → item_at (l ++ x ∷ []) i ≡ item_at l i
item_push l x i low = item_at_old l x i (λ e. omega (arith, low, e))

pub item_last : {A : Type 0} (l : List A) (x : A) → item_at (l ++ x ∷ []) (length l) ≡ Some x
item_last l x = item_at_new l x

items_append : {T : Type 0} (h g : List (Mark T)) → items_put (h ++ g) ≡ items_put h ++ items_put g
items_append h g = flat_map-append put_in h g

items_more : {T : Type 0} (h g : List (Mark T)) (k : ℕ) (x : T) → item_at (items_put h) k ≡ Some x → item_at (items_put (h ++ g)) k ≡ Some x
items_more h g k x e = ap (λ l. item_at l k) (items_append h g) ∙ (item_before (items_put h) (items_put g) k x e)
  where
    item_before : {A : Type 0} (f g : List A) (k : ℕ) (x : A) → item_at f k ≡ Some x → item_at (f ++ g) k ≡ Some x
    item_before [] g k x e = absurd cc
    item_before (y ∷ f) g zero x e = e
    item_before (y ∷ f) g (suc k) x e = item_before f g k x e

-- what was put stays put as more is seen
pub put_more : {T : Type 0} (h g : List (Mark T)) (k : ℕ) (x : T) → Begins h g → item_at (items_put h) k ≡ Some x → item_at (items_put g) k ≡ Some x
put_more h g k x b e = subst (λ z. item_at (items_put z) k ≡ Some x) b.1 (items_more h b.0 k x e)
