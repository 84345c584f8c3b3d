-- The last mark of a burst's call, and the draws of its names.
use Rattle.std.specs.Prelude.{zero, suc}
use Rattle.std.proofs.lemmas.List.{reverse-append}
use Rattle.std.proofs.lemmas.List.Elements.{All-nil, All-cons, All-append}
use Rattle.fak_model.specs.Calls.{last_of}
use Rattle.fak_model.specs.Queue.{Drew}
use Rattle.fak_model.specs.Seats.{Begins}
use Rattle.fak_model.proofs.Deciding.{same_or_not}
use Rattle.fak_model.proofs.RunningCalls.{last_of-push}
use Rattle.fak_model.proofs.Seats.{marks_of_append}
use Rattle.fak_core.specs.QueueBlocks.{names_of, AreApart, marks_back}
use Rattle.fak_queue.specs.Bursts.{EndsIn}
use Rattle.fak_queue.proofs.BundleLists.{marks_on, own_first}
use Rattle.fak_queue.proofs.BundlePlaces.{own_mark, parted}
use Rattle.fak_queue.proofs.Common.{All, QueueHolder, Kind, Mark, mark, seat_of, marks_of, item_at, count, count_append, ◌≡◌, ◌≢◌, ℕ, ◌+◌, ◌==◌, true, false, nat_tests, List, [], ◌∷◌, ◌++◌, length, length-append, reverse, refl, sym, ap, ◌∙◌, subst, inl, inr, arith, append_assoc, Some}

-- ---- the last mark

-- the newest mark of a block is that of its last name
pub newest : {A B : Type 0} (f : B → Kind A) (ss : List (ℕ × B)) (i n : ℕ) (x : B) → item_at ss i ≡ Some (n, x) → i + 1 ≡ length ss → (older : List (Mark A)) × (marks_back f ss ≡ mark n (f x) ∷ older)
newest f [] i n x e last = absurd (omega (arith, last))
newest f (s ∷ []) zero n x e last = let g : Some s ≡ Some (n, x) = e in let h : s ≡ (n, x) = cc in ([], λ j. mark (h j).0 (f (h j).1) ∷ [])
newest f (s ∷ []) (suc i) n x e last = absurd (omega (arith, last))
newest f (s ∷ t ∷ ss) zero n x e last = absurd (omega (arith, last))
newest f (s ∷ t ∷ ss) (suc i) n x e last =
    let r = newest f (t ∷ ss) i n x e (omega (arith, last)) in
    (r.0 ++ mark s.0 (f s.1) ∷ [], ap (λ l. l ++ mark s.0 (f s.1) ∷ []) r.1)

first_back : {A B : Type 0} (f : B → Kind A) (s : ℕ × B) (ss : List (ℕ × B)) → (m : Mark A) × (older : List (Mark A)) × (marks_back f (s ∷ ss) ≡ m ∷ older)
first_back f s [] = (mark s.0 (f s.1), [], refl)
first_back f s (t ∷ ss) = let r = first_back f t ss in (r.0, r.1 ++ mark s.0 (f s.1) ∷ [], ap (λ l. l ++ mark s.0 (f s.1) ∷ []) r.2)

pub ends_now : {T : Type 0} (new past : List (Mark T)) (after : QueueHolder T) → after.0.seen ≡ new ++ past → EndsIn new after
ends_now [] past after e = tt
ends_now (m ∷ new) past after e = (new ++ past, e)

-- after older marks, which only the same names left
pub ends_back : {T B : Type 0} (f : B → Kind T) (ss : List (ℕ × B)) (new past : List (Mark T)) (after : QueueHolder T) → after.0.seen ≡ marks_back f ss ++ past → (ss ≡ [] → new ≡ []) → EndsIn (marks_back f ss ++ new) after
ends_back f [] new past after e none = subst (λ l. EndsIn l after) (sym (none refl)) tt
ends_back f (s ∷ ss) new past after e none =
    let r = first_back f s ss in
    subst (λ l. EndsIn (l ++ new) after) (sym r.2) (r.1 ++ past, e ∙ ap (λ l. l ++ past) r.2)

pub last_seen : {T : Type 0} (m : Mark T) (past seen : List (Mark T)) → seen ≡ m ∷ past → last_of (reverse seen) ≡ Some m
last_seen m past seen e = ap (λ l. last_of (reverse l)) e ∙ (ap last_of (reverse-append (m ∷ []) past) ∙ last_of-push (reverse past) m)

-- the last mark after a block is that of its last name
pub last_in_block : {T B : Type 0} (f : B → Kind T) (ss : List (ℕ × B)) (i n : ℕ) (x : B) → item_at ss i ≡ Some (n, x) → i + 1 ≡ length ss → (past seen : List (Mark T)) → seen ≡ marks_back f ss ++ past → last_of (reverse seen) ≡ Some (mark n (f x))
last_in_block f ss i n x e last past seen is = let w = newest f ss i n x e last in last_seen (mark n (f x)) (w.0 ++ past) seen (is ∙ ap (λ l. l ++ past) w.1)

-- the same where it is only known which of these marks is the newest
pub last_of_ends : {T B : Type 0} (f : B → Kind T) (ss : List (ℕ × B)) (i n : ℕ) (x : B) → item_at ss i ≡ Some (n, x) → i + 1 ≡ length ss → (new : List (Mark T)) (after : QueueHolder T) → EndsIn (marks_back f ss ++ new) after → last_of (reverse after.0.seen) ≡ Some (mark n (f x))
last_of_ends {T} f ss i n x e last new after ends =
    let w = newest f ss i n x e last in
    let s : (past : List (Mark T)) × (after.0.seen ≡ mark n (f x) ∷ past) = subst (λ l. EndsIn (l ++ new) after) w.1 ends in
    last_seen (mark n (f x)) s.0 after.0.seen s.1

-- ---- draws

-- marks among which a name has none belong to others
of_others : {A : Type 0} (n : ℕ) (h : List (Mark A)) → length (marks_of seat_of n h) ≡ 0 → All (λ (m : Mark A). m.seat ≢ n) h
of_others {A} n [] e = All-nil (λ (m : Mark A). m.seat ≢ n)
of_others {A} n (m ∷ h) e = elim (same_or_not m.seat n) [
  | inl same ↦ (let t : (m.seat == n) ≡ true = grind (arith, nat_tests) in let z : length (m ∷ marks_of seat_of n h) ≡ 0 = rw t at e in absurd (omega (arith, z)))
  | inr other ↦ (let b : (m.seat == n) ≡ false = grind (arith, nat_tests) in let z : length (marks_of seat_of n h) ≡ 0 = rw b at e in All-cons (λ (m : Mark A). m.seat ≢ n) m h other (of_others n h z))
]

-- each name of a block of draws drew the ticket of its place in it
pub drew_in_block : {A B : Type 0} (draws : Kind A → ℕ) (f : B → Kind A) → ((y : B) → draws (f y) ≡ 1) → (ss : List (ℕ × B)) (i n : ℕ) (x : B) → AreApart (names_of ss) → item_at ss i ≡ Some (n, x)
    → (past h : List (Mark A)) (k : ℕ) → h ≡ past ++ marks_on f ss → count draws past ≡ k → Drew h n (f x) draws (k + i)
drew_in_block {A} draws f one ss i n x apart it past h k there counted =
    let p = parted f ss i n x it in
    let own : marks_of seat_of n (marks_on f ss) ≡ mark n (f x) ∷ [] = own_mark f ss i n x apart it in
    let split : marks_of seat_of n (marks_on f ss) ≡ marks_of seat_of n p.front ++ (mark n (f x) ∷ marks_of seat_of n p.back) =
    ap (marks_of seat_of n) p.is ∙ (marks_of_append seat_of n p.front (mark n (f x) ∷ p.back) ∙ ap (λ l. marks_of seat_of n p.front ++ l) (own_first n (f x) p.back)) in
    let b : length (marks_of seat_of n (marks_on f ss)) ≡ 1 = ap length own in
    let d : length (marks_of seat_of n (marks_on f ss)) ≡ length (marks_of seat_of n p.front) + suc (length (marks_of seat_of n p.back)) = ap length split ∙ length-append (marks_of seat_of n p.front) (mark n (f x) ∷ marks_of seat_of n p.back) in
    let sum : count draws (past ++ p.front) ≡ count draws past + count draws p.front = count_append draws past p.front in
    let front : count draws p.front ≡ i = p.number draws one in
    record {
      earlier = past ++ p.front;
      m = mark n (f x);
      later = p.back;
      stands = append_assoc past p.front (mark n (f x) ∷ p.back) ∙ (ap (λ l. past ++ l) (sym p.is) ∙ sym there);
      his = refl;
      is = refl;
      last = of_others n p.back (omega (arith, b, d));
      number = omega (arith, sum, front, counted);
    }

-- a draw stays the last mark of a name that makes no other
pub drew_still : {A : Type 0} (h g : List (Mark A)) (n : ℕ) (draw : Kind A) (draws : Kind A → ℕ) (ticket : ℕ) → Begins h g → marks_of seat_of n g ≡ marks_of seat_of n h → Drew h n draw draws ticket → Drew g n draw draws ticket
drew_still {A} h g n draw draws ticket begins same d =
    let rest = begins.0 in
    let all : marks_of seat_of n g ≡ marks_of seat_of n h ++ marks_of seat_of n rest = ap (marks_of seat_of n) (sym begins.1) ∙ marks_of_append seat_of n h rest in
    let none = ap length (sym same ∙ all) ∙ length-append (marks_of seat_of n h) (marks_of seat_of n rest) in
    record {
      earlier = d.earlier;
      m = d.m;
      later = d.later ++ rest;
      stands = sym (append_assoc d.earlier (d.m ∷ d.later) rest) ∙ (ap (λ l. l ++ rest) d.stands ∙ begins.1);
      his = d.his;
      is = d.is;
      last = All-append (λ (m : Mark A). m.seat ≢ n) d.later rest d.last (of_others n rest (omega (arith, none)));
      number = d.number;
    }
