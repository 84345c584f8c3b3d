-- The names of a bundle that take part in a burst, and the marks of its steps.
use Rattle.std.specs.Prelude.{take, drop, zero, suc}
use Rattle.std.proofs.lemmas.List.{append-nil, length-drop, take-append-drop, reverse-append, append_assoc}
use Rattle.fak_model.specs.Histories.{AreNamed, IsHistory}
use Rattle.fak_model.specs.Seats.{Begins, marks_of}
use Rattle.fak_model.specs.Shown.{Leaves}
use Rattle.fak_model.proofs.RunningCalls.{sees_knows}
use Rattle.fak_model.proofs.RunningViews.{sees_begins}
use Rattle.fak_model.proofs.Seats.{in_either, in_left, in_right, marks_of_append}
use Rattle.fak_core.specs.QueueBlocks.{Posts, names_of, AreApart, all_at}
use Rattle.fak_core.proofs.QueueBlocks.{names-append, names-at, apart_left, apart_right, apart_both}
use Rattle.fak_queue.specs.Bursts.{NoneOwn, AllIn, AreDisjoint, PostsAreIdle, Says, units, StandAfter, LeavesMarks, pair_up, idle_posts}
use Rattle.fak_core.proofs.QueueBlocks.{no_items}
use Rattle.fak_queue.proofs.BurstPosts.{post_left, post_right}
use Rattle.fak_queue.proofs.Common.{IsPost, QueueView, QueueHolder, queue_object, queue_rules, Phases, ◌≡◌, ◌⊎◌, ℕ, suc, ◌-◌, ◌≤◌, List, [], ◌∷◌, ◌++◌, length, refl, sym, ap, ◌∙◌, subst, inl, inr, arith, reverse, In, Mark, Phase}

-- ---- names

pub pair_names : {T : Type 0} (ns : List ℕ) (xs : List T) → length xs ≤ length ns → names_of (pair_up ns xs) ≡ take (length xs) ns
pair_names [] [] fit = refl
pair_names [] (x ∷ xs) fit = absurd (omega (arith, fit))
pair_names (n ∷ ns) [] fit = refl
pair_names (n ∷ ns) (x ∷ xs) fit = ap (λ l. n ∷ l) (pair_names ns xs (omega (arith, fit)))

pub units_length : (n : ℕ) → length (units n) ≡ n
units_length zero = refl
units_length (suc n) = ap suc (units_length n)

pub idle_names : (T : Type 0) (ns : List ℕ) → names_of (idle_posts {T = T} ns) ≡ ns
idle_names T [] = refl
idle_names T (n ∷ ns) = ap (λ l. n ∷ l) (idle_names T ns)

pub idle_rest : (T : Type 0) (ns : List ℕ) → PostsAreIdle (idle_posts {T = T} ns)
idle_rest T [] = tt
idle_rest T (n ∷ ns) = (refl, idle_rest T ns)

pub all_of : (a names : List ℕ) → ((n : ℕ) → In n a → In n names) → AllIn a names
all_of [] names among = tt
all_of (n ∷ a) names among = (among n (inl refl), all_of a names (λ k i. among k (inr i)))

post_either : {T : Type 0} (a b : Posts T) (n : ℕ) (p : Phase T) → IsPost n p (a ++ b) → IsPost n p a ⊎ IsPost n p b
post_either [] b n p i = inr i
post_either (s ∷ a) b n p (inl e) = inl (inl e)
post_either (s ∷ a) b n p (inr i) = elim (post_either a b n p i) [ inl x ↦ inl (inr x) | inr y ↦ inr y ]

-- the first two parts are swapped
pub post_swap : {T : Type 0} (a b c : Posts T) (n : ℕ) (p : Phase T) → IsPost n p (a ++ (b ++ c)) → IsPost n p (b ++ (a ++ c))
post_swap a b c n p i = elim (post_either a (b ++ c) n p i) [
  | inl x ↦ post_right b (a ++ c) n p (post_left a c n p x)
  | inr y ↦ elim (post_either b c n p y) [
    | inl z ↦ post_left b (a ++ c) n p z
    | inr z ↦ post_right b (a ++ c) n p (post_right a c n p z)
  ]
]

pub says_swap : {T : Type 0} (v : QueueView T) (a b c : Posts T) → Says v (a ++ (b ++ c)) → Says v (b ++ (a ++ c))
says_swap v a b c e = (e.0, e.1, λ n p i. e.2 n p (post_swap b a c n p i))

-- ---- the names that take part, of which the first j are granted

module _ (T : Type 0) {B : Type 0} (ns : List ℕ) (xs : List B) (apart : AreApart ns) (fit : length xs ≤ length ns) where
  zs : List (ℕ × B)
  zs = pair_up ns xs

  rest : Posts T
  rest = idle_posts (drop (length xs) ns)

  pub whole : names_of (pair_up ns xs) ++ names_of (idle_posts {T = T} (drop (length xs) ns)) ≡ ns
  whole = (λ i. pair_names ns xs fit i ++ idle_names T (drop (length xs) ns) i) ∙ take-append-drop (length xs) ns

  cut : AreApart (names_of (pair_up ns xs) ++ names_of (idle_posts {T = T} (drop (length xs) ns)))
  cut = subst AreApart (sym whole) apart

  pub once : AreApart (names_of (pair_up ns xs))
  once = apart_left (names_of (pair_up ns xs)) (names_of (idle_posts {T = T} (drop (length xs) ns))) cut

  pub from_rest : AreDisjoint (names_of (pair_up ns xs)) (names_of (idle_posts {T = T} (drop (length xs) ns)))
  from_rest = apart_both (names_of (pair_up ns xs)) (names_of (idle_posts {T = T} (drop (length xs) ns))) cut

  pub in_zs : (n : ℕ) → In n (names_of (pair_up ns xs)) → In n ns
  in_zs n i = subst (In n) whole (in_left n (names_of (pair_up ns xs)) (names_of (idle_posts {T = T} (drop (length xs) ns))) i)

  pub in_rest : (n : ℕ) → In n (names_of (idle_posts {T = T} (drop (length xs) ns))) → In n ns
  in_rest n i = subst (In n) whole (in_right n (names_of (pair_up ns xs)) (names_of (idle_posts {T = T} (drop (length xs) ns))) i)

  module _ (j : ℕ) where
    parts : names_of (take j (pair_up ns xs)) ++ names_of (drop j (pair_up ns xs)) ≡ names_of (pair_up ns xs)
    parts = sym (names-append (take j (pair_up ns xs)) (drop j (pair_up ns xs))) ∙ ap (λ l. names_of l) (take-append-drop j (pair_up ns xs))

    split : AreApart (names_of (take j (pair_up ns xs)) ++ names_of (drop j (pair_up ns xs)))
    split = subst AreApart (sym parts) once

    pub once_granted : AreApart (names_of (take j (pair_up ns xs)))
    once_granted = apart_left (names_of (take j (pair_up ns xs))) (names_of (drop j (pair_up ns xs))) split

    pub once_over : AreApart (names_of (drop j (pair_up ns xs)))
    once_over = apart_right (names_of (take j (pair_up ns xs))) (names_of (drop j (pair_up ns xs))) split

    pub in_granted : (n : ℕ) → In n (names_of (take j (pair_up ns xs))) → In n (names_of (pair_up ns xs))
    in_granted n i = subst (In n) parts (in_left n (names_of (take j (pair_up ns xs))) (names_of (drop j (pair_up ns xs))) i)

    pub in_over : (n : ℕ) → In n (names_of (drop j (pair_up ns xs))) → In n (names_of (pair_up ns xs))
    in_over n i = subst (In n) parts (in_right n (names_of (take j (pair_up ns xs))) (names_of (drop j (pair_up ns xs))) i)

    pub not_both : AreDisjoint (names_of (take j (pair_up ns xs))) (names_of (drop j (pair_up ns xs)))
    not_both = apart_both (names_of (take j (pair_up ns xs))) (names_of (drop j (pair_up ns xs))) split

    -- the names that are over, together with the granted ones and those at rest
    module _ (f : B → Phase T) where
      over_others : (n : ℕ) → In n (names_of (all_at f (take j (pair_up ns xs)) ++ idle_posts (drop (length xs) ns))) → In n (names_of (take j (pair_up ns xs))) ⊎ In n (names_of (idle_posts {T = T} (drop (length xs) ns)))
      over_others n i =
          let at = all_at f (take j (pair_up ns xs)) in
          elim (in_either n (names_of at) (names_of (idle_posts {T = T} (drop (length xs) ns))) (subst (In n) (names-append at (idle_posts (drop (length xs) ns))) i)) [
            | inl a ↦ inl (subst (In n) (names-at f (take j (pair_up ns xs))) a)
            | inr b ↦ inr b
          ]

      pub over_apart : AreDisjoint (names_of (drop j (pair_up ns xs))) (names_of (all_at f (take j (pair_up ns xs)) ++ idle_posts (drop (length xs) ns)))
      over_apart n i k = elim (over_others n k) [ inl a ↦ not_both n a i | inr b ↦ from_rest n (in_over n i) b ]

      pub over_in : (names : List ℕ) → names ≡ ns → AllIn (names_of (drop j (pair_up ns xs)) ++ names_of (all_at f (take j (pair_up ns xs)) ++ idle_posts (drop (length xs) ns))) names
      over_in names is = all_of _ names (λ n i. subst (In n) (sym is) (elim (in_either n (names_of (drop j (pair_up ns xs))) (names_of (all_at f (take j (pair_up ns xs)) ++ idle_posts (drop (length xs) ns))) i) [
        | inl a ↦ in_zs n (in_over n a)
        | inr b ↦ elim (over_others n b) [ inl c ↦ in_zs n (in_granted n c) | inr d ↦ in_rest n d ]
      ]))

-- ---- marks

pub begins_trans : {M : Type 0} (f g h : List M) → Begins f g → Begins g h → Begins f h
begins_trans f g h a b = (a.0 ++ b.0, sym (append_assoc f a.0 b.0) ∙ (ap (λ l. l ++ b.0) a.1 ∙ b.1))

mark_name : {T : Type 0} → Mark T → ℕ
mark_name m = m.seat

-- a step's marks come after the past that it states something of
pub stands_now : {T : Type 0} {size seats : ℕ} {m after : QueueHolder T} {new : List (Mark T)} {then : Phases T} {left : ℕ} {tells : List (Mark T) → Type 0} (l : Leaves (queue_object size seats) m new then left m.1 tells after) → StandAfter l.past new after
stands_now {new = new} l = ([], append-nil (reverse (new ++ l.past)) ∙ ap (λ (x : QueueHolder _). reverse x.0.seen) (sym l.after_is))

pub stands_more : {T : Type 0} {size seats : ℕ} (past new : List (Mark T)) {g : List (Mark T)} {a b : QueueHolder T} → StandAfter past new a → LeavesMarks size seats g a b → StandAfter past new b
stands_more past new {a = a} {b = b} s m = begins_trans (reverse (new ++ past)) (reverse a.0.seen) (reverse b.0.seen) s m.begins

-- the past that a step states something of has no new mark of its names
pub own_past : {T : Type 0} {size seats : ℕ} {m after : QueueHolder T} {new : List (Mark T)} {then : Phases T} {left : ℕ} {tells : List (Mark T) → Type 0} (l : Leaves (queue_object size seats) m new then left m.1 tells after) → NoneOwn l.past m
own_past {T} {m = m} l = λ n i. (sees_knows (λ (x : Mark T). x.seat) m.0.names m.0.seen l.past l.sees).own n i

-- a step's marks
pub makes_step : {T : Type 0} {size seats : ℕ} {m after : QueueHolder T} {new : List (Mark T)} {then : Phases T} {left : ℕ} {tells : List (Mark T) → Type 0} → Leaves (queue_object size seats) m new then left m.1 tells after → LeavesMarks size seats new m after
makes_step {T} {size} {seats} {m} {after} {new} l =
    let seat : Mark T → ℕ = λ (x : Mark T). x.seat in
    let seen : after.0.seen ≡ new ++ l.past = ap (λ (x : QueueHolder T). x.0.seen) l.after_is in
    let history : reverse after.0.seen ≡ reverse l.past ++ reverse new = ap reverse seen ∙ reverse-append new l.past in
    let knows = sees_knows seat m.0.names m.0.seen l.past l.sees in
    record {
      names = ap (λ (x : QueueHolder T). x.0.names) l.after_is;
      slots = ap (λ (x : QueueHolder T). x.1) l.after_is;
      begins = begins_trans (reverse m.0.seen) (reverse l.past) (reverse after.0.seen) (sees_begins seat m.0.names m.0.seen l.past l.sees) (reverse new, sym history);
      mine = λ n i. ap (marks_of seat n) history ∙ (marks_of_append seat n (reverse l.past) (reverse new) ∙ ap (λ h. h ++ marks_of seat n (reverse new)) (knows.own n i));
      lawful = subst (λ h. IsHistory (queue_rules size) (reverse h)) (sym seen) l.lawful;
      named = subst (λ h. AreNamed (queue_rules size) seats (reverse h)) (sym seen) l.named;
    }

-- steps one after another
pub makes_then : {T : Type 0} {size seats : ℕ} {a b c : QueueHolder T} {f g : List (Mark T)} → LeavesMarks size seats f a b → LeavesMarks size seats g b c → LeavesMarks size seats (g ++ f) a c
makes_then {T} {a = a} {b = b} {c = c} {f = f} {g = g} x y =
    let seat : Mark T → ℕ = λ (x : Mark T). x.seat in
    record {
      names = y.names ∙ x.names;
      slots = y.slots ∙ x.slots;
      begins = begins_trans (reverse a.0.seen) (reverse b.0.seen) (reverse c.0.seen) x.begins y.begins;
      mine = λ n i.
          let there = y.mine n (subst (In n) (sym x.names) i) in
          there ∙ (ap (λ h. h ++ marks_of seat n (reverse g)) (x.mine n i) ∙ (append_assoc (marks_of seat n (reverse a.0.seen)) (marks_of seat n (reverse f)) (marks_of seat n (reverse g))
          ∙ ap (λ h. marks_of seat n (reverse a.0.seen) ++ h) (sym (ap (marks_of seat n) (reverse-append g f) ∙ marks_of_append seat n (reverse f) (reverse g)))));
      lawful = y.lawful;
      named = y.named;
    }

-- a step with no mark, and another
pub makes_then_first : {T : Type 0} {size seats : ℕ} {a b c : QueueHolder T} {g : List (Mark T)} → LeavesMarks size seats [] a b → LeavesMarks size seats g b c → LeavesMarks size seats g a c
makes_then_first {size = size} {seats = seats} {a = a} {c = c} {g = g} x y = subst (λ l. LeavesMarks size seats l a c) (append-nil g) (makes_then x y)

pub own_past_first : {T : Type 0} {size seats : ℕ} {a b : QueueHolder T} (past : List (Mark T)) → LeavesMarks size seats [] a b → NoneOwn past b → NoneOwn past a
own_past_first {T} {a = a} past x none = λ n i. none n (subst (In n) (sym x.names) i) ∙ (x.mine n i ∙ append-nil (marks_of (λ (m : Mark T). m.seat) n (reverse a.0.seen)))

-- ---- those that are over

pub pair_length : {T : Type 0} (ns : List ℕ) (xs : List T) → length xs ≤ length ns → length (pair_up ns xs) ≡ length xs
pair_length [] [] fit = refl
pair_length [] (x ∷ xs) fit = absurd (omega (arith, fit))
pair_length (n ∷ ns) [] fit = refl
pair_length (n ∷ ns) (x ∷ xs) fit = ap suc (pair_length ns xs (omega (arith, fit)))

pub over_length : {T : Type 0} (ns : List ℕ) (xs : List T) → length xs ≤ length ns → (j : ℕ) → length (drop j (pair_up ns xs)) ≡ length xs - j
over_length ns xs fit j = length-drop j (pair_up ns xs) ∙ ap (λ n. n - j) (pair_length ns xs fit)

pub none_over : {T : Type 0} (ns : List ℕ) (xs : List T) → length xs ≤ length ns → (j : ℕ) → length xs ≤ j → drop j (pair_up ns xs) ≡ []
none_over ns xs fit j all = no_items (drop j (pair_up ns xs)) (over_length ns xs fit j ∙ omega (arith, all))
