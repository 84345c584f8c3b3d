-- The calls of a bundle's names, whole or cut short, and what these names add up to.
use Rattle.std.specs.Prelude.{suc}
use Rattle.std.proofs.lemmas.List.{map-append}
use Rattle.fak_model.specs.Queue.{WholeCall, Word}
use Rattle.fak_model.proofs.Appending.{call_begins}
use Rattle.fak_queue.specs.BundleCalls.{HasEnded}
use Rattle.fak_queue.proofs.SeatCalls.{tickets-append}
use Rattle.fak_queue.proofs.Common.{Kind, Mark, seat_of, marks_of, made_by, tickets_in, item_at, count, count_append, word, words_of_call, Owes, seat_words, queue_rules, sum_by, sum_by-cons, ◌≡◌, ℕ, ◌+◌, ◌≤◌, List, [], ◌∷◌, ◌++◌, length, map, refl, sym, ap, ◌∙◌, subst, arith, append_assoc, append-nil, Some}

-- ---- words

begun : (ws more owed : List Word) (c : WholeCall) → more ++ owed ≡ words_of_call c → Owes words_of_call ws [] → Owes words_of_call (ws ++ more) owed
begun ws more owed c is ended =
    let o = call_begins words_of_call ws c ended in
    (o.0, append_assoc ws more owed ∙ (ap (λ l. ws ++ l) is ∙ o.1))

done : (ws owed : List Word) → Owes words_of_call ws owed → Owes words_of_call (ws ++ owed) []
done ws owed o = (o.0, append-nil (ws ++ owed) ∙ o.1)

-- the words of a name's marks of these kinds
abbrev pub said_by : {T : Type 0} → ℕ → List (Kind T) → List Word
said_by {T} n kinds = map (λ (m : Mark T). word m.kind) (made_by n kinds)

words_then : {T : Type 0} (n : ℕ) (h g : List (Mark T)) (kinds : List (Kind T)) → marks_of seat_of n g ≡ marks_of seat_of n h ++ made_by n kinds → seat_words (queue_rules 0) n h ++ said_by n kinds ≡ seat_words (queue_rules 0) n g
words_then {T} n h g kinds made = sym (ap (map (λ (m : Mark T). word m.kind)) made ∙ map-append (λ (m : Mark T). word m.kind) (marks_of seat_of n h) (made_by n kinds))

-- a name at rest begins a call
pub owed_then : {T : Type 0} (c : WholeCall) (n : ℕ) (h g : List (Mark T)) (kinds : List (Kind T)) (owed : List Word) → said_by n kinds ++ owed ≡ words_of_call c → marks_of seat_of n g ≡ marks_of seat_of n h ++ made_by n kinds
    → HasEnded n h → Owes words_of_call (seat_words (queue_rules 0) n g) owed
owed_then c n h g kinds owed is made ended = subst (λ ws. Owes words_of_call ws owed) (words_then n h g kinds made) (begun (seat_words (queue_rules 0) n h) (said_by n kinds) owed c is ended)

-- a name goes through a whole call
pub ended_then : {T : Type 0} (c : WholeCall) (n : ℕ) (h g : List (Mark T)) (kinds : List (Kind T)) → said_by n kinds ≡ words_of_call c → marks_of seat_of n g ≡ marks_of seat_of n h ++ made_by n kinds → HasEnded n h → HasEnded n g
ended_then c n h g kinds is made ended = owed_then c n h g kinds [] (append-nil (said_by n kinds) ∙ is) made ended

-- a name goes through the rest of its call
pub ended_now : {T : Type 0} (n : ℕ) (h g : List (Mark T)) (kinds : List (Kind T)) → marks_of seat_of n g ≡ marks_of seat_of n h ++ made_by n kinds → Owes words_of_call (seat_words (queue_rules 0) n h) (said_by n kinds) → HasEnded n g
ended_now n h g kinds made o = subst (λ ws. Owes words_of_call ws []) (words_then n h g kinds made) (done (seat_words (queue_rules 0) n h) (said_by n kinds) o)

-- a name leaves no mark
pub owed_still : {T : Type 0} (n : ℕ) (h g : List (Mark T)) (owed : List Word) → marks_of seat_of n g ≡ marks_of seat_of n h → Owes words_of_call (seat_words (queue_rules 0) n h) owed → Owes words_of_call (seat_words (queue_rules 0) n g) owed
owed_still {T} n h g owed same o = subst (λ (l : List (Mark T)). Owes words_of_call (map (λ (m : Mark T). word m.kind) l) owed) (sym same) o

-- ---- sums over the names

-- the first names add the weight of something of theirs, and the others nothing
pub grows_by : {B : Type 0} (f g : ℕ → ℕ) (v : B → ℕ) (names : List ℕ) (ys : List B) → length ys ≤ length names → ((i n : ℕ) (y : B) → item_at names i ≡ Some n → item_at ys i ≡ Some y → g n ≡ f n + v y)
    → ((i n : ℕ) → item_at names i ≡ Some n → length ys ≤ i → g n ≡ f n) → sum_by g names ≡ sum_by f names + sum_by v ys
grows_by f g v [] [] fit own none = refl
grows_by f g v [] (y ∷ ys) fit own none = absurd (omega (arith, fit))
grows_by {B} f g v (n ∷ names) [] fit own none =
    let low : (i m : ℕ) (y : B) → item_at names i ≡ Some m → item_at (let l : List B = [] in l) i ≡ Some y → g m ≡ f m + v y = (λ i m y e at. own (suc i) m y e at) in
    let rest = grows_by f g v names [] (omega arith) low (λ i m e high. none (suc i) m e (omega arith)) in
    let a = sum_by-cons f n names in
    let b = sum_by-cons g n names in
    let c = none 0 n refl (omega arith) in
    omega (arith, rest, a, b, c)
grows_by f g v (n ∷ names) (y ∷ ys) fit own none =
    let rest = grows_by f g v names ys (omega (arith, fit)) (λ i m z e at. own (suc i) m z e at) (λ i m e high. none (suc i) m e (omega (arith, high))) in
    let a = sum_by-cons f n names in
    let b = sum_by-cons g n names in
    let d = sum_by-cons v y ys in
    let c = own 0 n y refl refl in
    omega (arith, rest, a, b, c, d)

-- a sum of ones is their number
pub ones : {B : Type 0} (ys : List B) → sum_by (λ (y : B). 1) ys ≡ length ys
ones [] = refl
ones {B} (y ∷ ys) = let a = sum_by-cons (λ (y : B). 1) y ys in let b = ones ys in omega (arith, a, b)

-- the weight of a name's marks as it leaves more
pub count_made : {T : Type 0} (w : Kind T → ℕ) (n : ℕ) (h g : List (Mark T)) (kinds : List (Kind T)) → marks_of seat_of n g ≡ marks_of seat_of n h ++ made_by n kinds → count w (marks_of seat_of n g) ≡ count w (marks_of seat_of n h) + count w (made_by n kinds)
count_made w n h g kinds made = ap (count w) made ∙ count_append w (marks_of seat_of n h) (made_by n kinds)

pub tickets_made : {T : Type 0} (n : ℕ) (h g : List (Mark T)) (kinds : List (Kind T)) → marks_of seat_of n g ≡ marks_of seat_of n h ++ made_by n kinds → tickets_in (marks_of seat_of n g) ≡ tickets_in (marks_of seat_of n h) + tickets_in (made_by n kinds)
tickets_made n h g kinds made = ap tickets_in made ∙ tickets-append (marks_of seat_of n h) (made_by n kinds)
