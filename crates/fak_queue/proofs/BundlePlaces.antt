-- What was before the marks of a burst.
use Rattle.std.specs.Prelude.{zero, suc}
use Rattle.fak_model.specs.Seats.{Begins}
use Rattle.fak_model.proofs.Seats.{marks_of_append}
use Rattle.fak_model.proofs.RunningCalls.{before_mark-append}
use Rattle.fak_core.specs.QueueBlocks.{names_of, AreApart}
use Rattle.fak_queue.proofs.BundleLists.{marks_on, other_first, own_first, no_marks}
use Rattle.fak_queue.proofs.Common.{In, inl, inr, Kind, Mark, mark, seat_of, marks_of, before_mark, item_at, count, count_append, ◌≡◌, ℕ, ◌+◌, ◌<◌, ◌==◌, Bool, true, false, cond, List, [], ◌∷◌, ◌++◌, length, length-append, refl, sym, ap, ◌∙◌, subst, arith, append_assoc, Some}

-- ---- a name's mark in a block

pub pair_in : {B : Type 0} (ss : List (ℕ × B)) (i n : ℕ) (x : B) → item_at ss i ≡ Some (n, x) → In n (names_of ss)
pair_in [] i n x e = absurd cc
pair_in (s ∷ ss) zero n x e = inl (let g : Some s ≡ Some (n, x) = e in let h : s ≡ (n, x) = cc in sym (ap (λ (z : ℕ × _). z.0) h))
pair_in (s ∷ ss) (suc i) n x e = inr (pair_in ss i n x e)

-- a name with one item makes one mark
pub own_mark : {A B : Type 0} (f : B → Kind A) (ss : List (ℕ × B)) (i n : ℕ) (x : B) → AreApart (names_of ss) → item_at ss i ≡ Some (n, x) → marks_of seat_of n (marks_on f ss) ≡ mark n (f x) ∷ []
own_mark f [] i n x apart e = absurd cc
own_mark {A} f (s ∷ ss) zero n x apart e =
    let same : s ≡ (n, x) = (let g : Some s ≡ Some (n, x) = e in cc) in
    let none : marks_of seat_of s.0 (marks_on f ss) ≡ [] = no_marks f ss s.0 apart.0 in
    subst (λ (z : ℕ × _). marks_of seat_of z.0 (marks_on f (s ∷ ss)) ≡ mark z.0 (f z.1) ∷ []) same (own_first s.0 (f s.1) (marks_on f ss) ∙ ap (λ h. mark s.0 (f s.1) ∷ h) none)
own_mark f (s ∷ ss) (suc i) n x apart e = other_first n s.0 (f s.1) (marks_on f ss) (λ z. apart.0 (subst (λ y. In y (names_of ss)) z (pair_in ss i n x e))) ∙ own_mark f ss i n x apart.1 e

-- ---- marks of a block, up to one of them and after it

pub record Parted {A B : Type 0} (f : B → Kind A) (ss : List (ℕ × B)) (i n : ℕ) (x : B) : Type 0 where
  pub front : List (Mark A)
  pub back : List (Mark A)
  pub is : marks_on f ss ≡ front ++ mark n (f x) ∷ back
  pub number : (w : Kind A → ℕ) → ((y : B) → w (f y) ≡ 1) → count w front ≡ i

pub parted : {A B : Type 0} (f : B → Kind A) (ss : List (ℕ × B)) (i n : ℕ) (x : B) → item_at ss i ≡ Some (n, x) → Parted f ss i n x
parted f [] i n x e = absurd cc
parted f (s ∷ ss) zero n x e =
    let g : Some s ≡ Some (n, x) = e in
    let h : s ≡ (n, x) = cc in
    record { front = []; back = marks_on f ss; is = λ j. mark (h j).0 (f (h j).1) ∷ marks_on f ss; number = λ w one. refl }
parted f (s ∷ ss) (suc i) n x e =
    let r = parted f ss i n x e in
    record {
      front = mark s.0 (f s.1) ∷ r.front;
      back = r.back;
      is = ap (λ l. mark s.0 (f s.1) ∷ l) r.is;
      number = λ w one. (let a = one s.1 in let b = r.number w one in omega (arith, a, b));
    }

-- a name's mark in the block that ends a history, after `number` marks of the name: as many draws come before it as before the
-- block, and those of the names before it
pub before_block : {A B : Type 0} (w : Kind A → ℕ) (f : B → Kind A) → ((y : B) → w (f y) ≡ 1) → (ss : List (ℕ × B)) (i n : ℕ) (x : B) → AreApart (names_of ss) → item_at ss i ≡ Some (n, x)
    → (past h : List (Mark A)) (k number : ℕ) → h ≡ past ++ marks_on f ss → length (marks_of seat_of n h) ≡ suc number → count w past ≡ k → count w (before_mark seat_of n number h) ≡ k + i
before_block {A} w f one ss i n x apart it past h k number is many counted =
    let p = parted f ss i n x it in
    let all : marks_of seat_of n h ≡ marks_of seat_of n past ++ marks_of seat_of n (marks_on f ss) = ap (marks_of seat_of n) is ∙ marks_of_append seat_of n past (marks_on f ss) in
    let own : marks_of seat_of n (marks_on f ss) ≡ mark n (f x) ∷ [] = own_mark f ss i n x apart it in
    let split : marks_of seat_of n (marks_on f ss) ≡ marks_of seat_of n p.front ++ (mark n (f x) ∷ marks_of seat_of n p.back) =
    ap (marks_of seat_of n) p.is ∙ (marks_of_append seat_of n p.front (mark n (f x) ∷ p.back) ∙ ap (λ l. marks_of seat_of n p.front ++ l) (own_first n (f x) p.back)) in
    let a : length (marks_of seat_of n h) ≡ length (marks_of seat_of n past) + length (marks_of seat_of n (marks_on f ss)) = ap length all ∙ length-append (marks_of seat_of n past) (marks_of seat_of n (marks_on f ss)) in
    let b : length (marks_of seat_of n (marks_on f ss)) ≡ 1 = ap length own in
    let d : length (marks_of seat_of n (marks_on f ss)) ≡ length (marks_of seat_of n p.front) + suc (length (marks_of seat_of n p.back)) = ap length split ∙ length-append (marks_of seat_of n p.front) (mark n (f x) ∷ marks_of seat_of n p.back) in
    let e : length (marks_of seat_of n (past ++ p.front)) ≡ length (marks_of seat_of n past) + length (marks_of seat_of n p.front) = ap length (marks_of_append seat_of n past p.front) ∙ length-append (marks_of seat_of n past) (marks_of seat_of n p.front) in
    let there : h ≡ (past ++ p.front) ++ mark n (f x) ∷ p.back = is ∙ (ap (λ l. past ++ l) p.is ∙ sym (append_assoc past p.front (mark n (f x) ∷ p.back))) in
    let before : before_mark seat_of n number h ≡ past ++ p.front = ap (before_mark seat_of n number) there ∙ before_mark-append seat_of n (past ++ p.front) p.back (mark n (f x)) number (omega (arith, a, b, d, e, many)) refl in
    let sum : count w (past ++ p.front) ≡ count w past + count w p.front = count_append w past p.front in
    let front : count w p.front ≡ i = p.number w one in
    ap (count w) before ∙ omega (arith, sum, front, counted)

-- ---- more of a history

here_or_on : {A : Type 0} (n : ℕ) (m : Mark A) (h f g : List (Mark A)) (b : Bool) → (m.seat == n) ≡ b → 0 < length (marks_of seat_of n (m ∷ h)) → (0 < length (marks_of seat_of n h) → f ≡ g) → cond (m.seat == n) [] (m ∷ f) ≡ cond (m.seat == n) [] (m ∷ g)
here_or_on n m h f g true e low rest = rw e refl
here_or_on n m h f g false e low rest = rw e (ap (λ l. m ∷ l) (rest (rw e at low)))

either_on : {A : Type 0} (n number : ℕ) (m : Mark A) (h f g f' g' : List (Mark A)) (b : Bool) → (m.seat == n) ≡ b → suc number < length (marks_of seat_of n (m ∷ h)) → (number < length (marks_of seat_of n h) → f ≡ g) → (suc number < length (marks_of seat_of n h) → f' ≡ g')
    → cond (m.seat == n) f f' ≡ cond (m.seat == n) g g'
either_on n number m h f g f' g' true e low here there = rw e (here (let l : suc number < length (m ∷ marks_of seat_of n h) = rw e at low in omega (arith, l)))
either_on n number m h f g f' g' false e low here there = rw e (there (rw e at low))

pub before_more : {A : Type 0} (n number : ℕ) (h more : List (Mark A)) → number < length (marks_of seat_of n h) → before_mark seat_of n number (h ++ more) ≡ before_mark seat_of n number h
before_more n zero [] more low = absurd (omega (arith, low))
before_more n (suc number) [] more low = absurd (omega (arith, low))
before_more n zero (m ∷ h) more low = here_or_on n m h (before_mark seat_of n zero (h ++ more)) (before_mark seat_of n zero h) (m.seat == n) refl low (before_more n zero h more)
before_more n (suc number) (m ∷ h) more low = ap (λ l. m ∷ l) (either_on n number m h (before_mark seat_of n number (h ++ more)) (before_mark seat_of n number h) (before_mark seat_of n (suc number) (h ++ more)) (before_mark seat_of n (suc number) h) (m.seat == n) refl low (before_more n number h more) (before_more n (suc number) h more))

pub before_begins : {A : Type 0} (n number : ℕ) (h g : List (Mark A)) → Begins h g → number < length (marks_of seat_of n h) → before_mark seat_of n number g ≡ before_mark seat_of n number h
before_begins n number h g b low = ap (before_mark seat_of n number) (sym b.1) ∙ before_more n number h b.0 low
