-- The weights of the marks of a legal history of a queue.
use Rattle.std.proofs.lemmas.List.{append-nil, take-append-le, take_more, nil_from_length}
use Rattle.fak_model.proofs.Common.{cases_lt, Kind, Put, Fill, Got, Close, Mark, put_of, got_of, close_of, closed_of, ◌≡◌, ℕ, zero, suc, ◌+◌, ◌<◌, ◌≤◌, List, [], ◌∷◌, ◌++◌, length, get_or, take, length-drop, reverse, Some, refl, ap, sym, ◌∙◌, subst, arith, inl, inr, sum_by, sum_by-append, sum_by_push, sum_by-take-drop, queue_rules, IsQueueHistory, IsFairMark, IsFirstOut, count, puts, gots, items_put, item_in, item_at, contents, Has, Drew, BearsTicket, common_steps}
use Rattle.fak_model.specs.QueuePast.{IsFair, IsLegalPast}
use Rattle.fak_model.proofs.Appending.{snoc_ind, history_front, last_fair}
use Rattle.fak_model.proofs.QueueBackwards.{count_append, count_reverse, items_push, items_count}
use Rattle.fak_model.proofs.QueueLiteral.{to_past}
use Rattle.fak_model.proofs.QueueLaws.{contents_fit}

count_push : {A : Type 0} (w : Kind A → ℕ) (h : List (Mark A)) (m : Mark A) → count w (h ++ m ∷ []) ≡ count w h + w m.kind
count_push w h m = omega (arith, count_append w h (m ∷ []))

-- the items put weigh as much as the Puts
item_weighs : {A : Type 0} (f : A → ℕ) (s : ℕ) (κ : Kind A) → sum_by f (item_in (record { seat = s; kind = κ })) ≡ put_of f κ
item_weighs f s κ = grind (arith, common_steps, sum_by, item_in, put_of)

pub items_weigh : {A : Type 0} (f : A → ℕ) (h : List (Mark A)) → sum_by f (items_put h) ≡ count (put_of f) h
items_weigh {A} f = snoc_ind (λ (h : List (Mark A)). sum_by f (items_put h) ≡ count (put_of f) h) refl (λ h m before.
    ap (sum_by f) (items_push h m) ∙ omega (arith, sum_by-append f (items_put h) (item_in m), item_weighs f m.seat m.kind, before, count_push (put_of f) h m))

-- an item at a place is within the list, and is what indexing gives
at_place : {A : Type 0} (xs : List A) (n : ℕ) (x : A) → item_at xs n ≡ Some x → (n < length xs) × (get_or xs n x ≡ x)
at_place [] n x at = absurd (cc)
at_place (y ∷ ys) zero x at = (omega arith, cc)
at_place (y ∷ ys) (suc n) x at = let rest = at_place ys n x at in (omega (arith, rest.0), rest.1)

-- the first n items put, where n is the number of Gots, weigh as much as the Gots
got_next : {A : Type 0} (f : A → ℕ) (h : List (Mark A)) (s : ℕ) (κ : Kind A) → IsFirstOut h κ → count gots h ≤ count puts h → sum_by f (take (count gots h) (items_put h)) ≡ count (got_of f) h
    → sum_by f (take (count gots h + gots κ) (items_put h ++ item_in (record { seat = s; kind = κ }))) ≡ count (got_of f) h + got_of f κ
got_next f h s (Got x) first le before =
    let w = at_place (items_put h) (count gots h) x first in
    let e : take (count gots h + 1) (items_put h) ≡ take (count gots h) (items_put h) ++ x ∷ [] = take_more (items_put h) (count gots h) x w.0 ∙ ap (λ y. take (count gots h) (items_put h) ++ y ∷ []) w.1 in
    ap (λ l. sum_by f (take (count gots h + 1) l)) (append-nil (items_put h)) ∙ (ap (sum_by f) e ∙ (sum_by_push f (take (count gots h) (items_put h)) x ∙ ap (λ n. n + f x) before))
got_next f h s (Put x) first le before = grind (arith, common_steps, count, gots, length, items_put, items_count, sum_by, take-append-le, take)
got_next f h s _ first le before = grind (arith, common_steps, count, gots, sum_by, take, append-nil, items_put)

pub gots_weigh : {A : Type 0} (size : ℕ) (f : A → ℕ) (h : List (Mark A)) → IsQueueHistory size h → sum_by f (take (count gots h) (items_put h)) ≡ count (got_of f) h
gots_weigh {A} size f = snoc_ind (λ (h : List (Mark A)). IsQueueHistory size h → sum_by f (take (count gots h) (items_put h)) ≡ count (got_of f) h) (λ law. refl) (λ h m before law.
    let front = history_front (queue_rules size) h m law in
    let fair : IsFairMark size h m = last_fair (queue_rules size) h m law in
    let next = got_next f h m.seat m.kind fair.first_out (contents_fit size h front).0 (before front) in
    let n : count gots (h ++ m ∷ []) ≡ count gots h + gots m.kind = count_push gots h m in
    ap (λ k. sum_by f (take k (items_put (h ++ m ∷ [])))) n ∙ (ap (λ l. sum_by f (take (count gots h + gots m.kind) l)) (items_push h m) ∙ (next ∙ sym (count_push (got_of f) h m))))

-- what was put weighs as much as what was got plus what is left
pub queue_weighs : {A : Type 0} (size : ℕ) (f : A → ℕ) (h : List (Mark A)) → IsQueueHistory size h → count (put_of f) h ≡ count (got_of f) h + sum_by f (contents h)
queue_weighs size f h law = omega (arith, items_weigh f h, gots_weigh size f h law, sum_by-take-drop f (items_put h) (count gots h))

-- if as many items were got as were put, nothing is left
pub nothing_left : {A : Type 0} (h : List (Mark A)) → count puts h ≤ count gots h → contents h ≡ []
nothing_left h le = nil_from_length (contents h) (omega (arith, length-drop (count gots h) (items_put h), items_count h))

-- an insertion that finds the queue shut comes after a close
has_counts : {A : Type 0} (h : List (Mark A)) → Has Close h → 0 < count close_of h
has_counts [] e = absurd e
has_counts (m ∷ h) (inl e) = let one : close_of m.kind ≡ 1 = ap close_of e in omega arith
has_counts (m ∷ h) (inr e) = omega (arith, has_counts h e)

closed_after : {A : Type 0} (size : ℕ) (h : List (Mark A)) (κ : Kind A) → IsFair size h κ → 0 < closed_of κ → 0 < count close_of h
closed_after size h κ fair more = grind (arith, common_steps, closed_of, count, close_of, IsFair, has_counts)

past_closed : {A : Type 0} (size : ℕ) (h : List (Mark A)) → IsLegalPast size h → 0 < count closed_of h → 0 < count close_of h
past_closed size [] legal more = absurd (omega arith)
past_closed size (m ∷ h) legal more = elim (cases_lt 0 (closed_of m.kind)) [
  | inl now ↦ (let here = closed_after size h m.kind legal.0.fair now in omega (arith, here))
  | inr none ↦ (let before = past_closed size h legal.1 (omega (arith, more, none)) in omega (arith, before))
]

pub closed_after_close : {A : Type 0} (size : ℕ) (h : List (Mark A)) → IsQueueHistory size h → 0 < count closed_of h → 0 < count close_of h
closed_after_close size h law more = grind (arith, common_steps, count_reverse, closed_of, close_of, past_closed, reverse, to_past)

count_same : {A : Type 0} (w v : Kind A → ℕ) → ((κ : Kind A) → w κ ≡ v κ) → (h : List (Mark A)) → count w h ≡ count v h
count_same w v each [] = refl
count_same w v each (m ∷ h) = omega (arith, each m.kind, count_same w v each h)

put_one : {A : Type 0} (κ : Kind A) → puts κ ≡ put_of (λ (x : A). 1) κ
put_one κ = grind (arith, common_steps, puts, put_of)

got_one : {A : Type 0} (κ : Kind A) → gots κ ≡ got_of (λ (x : A). 1) κ
got_one κ = grind (arith, common_steps, gots, got_of)

pub puts_weigh : {A : Type 0} (h : List (Mark A)) → count (put_of (λ (x : A). 1)) h ≡ count puts h
puts_weigh {A} h = sym (count_same puts (put_of (λ (x : A). 1)) put_one h)

pub gots_weigh_one : {A : Type 0} (h : List (Mark A)) → count (got_of (λ (x : A). 1)) h ≡ count gots h
gots_weigh_one {A} h = sym (count_same gots (got_of (λ (x : A). 1)) got_one h)

-- no more is left than was put
pub contents_put : {A : Type 0} (h : List (Mark A)) → length (contents h) ≤ count puts h
contents_put h = omega (arith, length-drop (count gots h) (items_put h), items_count h)

-- ---- the marks of one ticket

pub drew_below : {A : Type 0} (before : List (Mark A)) (seat k : ℕ) (x : A) → Drew before seat (Put x) puts k → k < count puts before
drew_below before seat k x d = grind (arith, common_steps, count, puts, count_append)

pub fill_after_put : {A : Type 0} (size : ℕ) (h before after : List (Mark A)) (m : Mark A) (k : ℕ) → IsQueueHistory size h → before ++ m ∷ after ≡ h → m.kind ≡ Fill k
    → ((x : A) × Drew before m.seat (Put x) puts k) × (k < count puts before)
fill_after_put size h before after m k law is kind =
    let fair : IsFairMark size before m = law.fair before m after is in
    let own = subst (BearsTicket before m.seat) kind fair.ticket in
    (own, drew_below before m.seat k own.0 own.1)
