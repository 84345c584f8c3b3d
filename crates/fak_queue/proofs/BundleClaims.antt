-- The claim of a burst of insertions, name by name.
use Rattle.std.specs.Prelude.{zero, suc, take, drop}
use Rattle.std.proofs.lemmas.List.{reverse-append, length-take-le}
use Rattle.fak_model.specs.declared.queue.Kind.TheVariants as made
use Rattle.fak_model.proofs.Seats.{marks_of_append}
use Rattle.fak_core.specs.declared.queue.phase.Phase.TheVariants.{Idle, TurnIn}
use Rattle.fak_core.specs.QueueBlocks.{names_of, AreApart, all_at, turns_from, marks_back}
use Rattle.fak_queue.specs.Bursts.{ClaimedBurst, idle_posts, pair_up}
use Rattle.fak_queue.specs.Bundles.{Filling, ClaimsOn, MadeBy, EndsWith}
use Rattle.fak_queue.proofs.BurstPosts.{post_left, post_right}
use Rattle.fak_queue.proofs.BurstNames.{idle_names, from_rest, in_granted, in_over, once_granted, once_over, not_both, pair_length}
use Rattle.fak_model.specs.Queue.{Drew, item_in as put_in}
use Rattle.fak_queue.proofs.BundleLists.{item_in, item_drop, item_take, marks_on, marks_turned, no_marks}
use Rattle.fak_queue.proofs.BundlePlaces.{own_mark, pair_in, before_block}
use Rattle.fak_queue.proofs.LastMarks.{drew_in_block, last_in_block}
use Rattle.fak_queue.proofs.Common.{before_part, count, length-append, made_by, puts, IsPost, items_count, flat_map-append, QueueHolder, seat_of, marks_of, item_at, items_put, In, ◌≡◌, ℕ, ◌+◌, ◌-◌, ◌<◌, ◌≤◌, List, [], ◌∷◌, ◌++◌, length, reverse, refl, sym, ap, ◌∙◌, subst, inl, inr, arith, append_assoc, Some, le_or_lt}

-- ---- names with their items

pub pair_item : {B : Type 0} (ns : List ℕ) (xs : List B) (i n : ℕ) (x : B) → item_at ns i ≡ Some n → item_at xs i ≡ Some x → item_at (pair_up ns xs) i ≡ Some (n, x)
pair_item [] xs i n x e f = absurd cc
pair_item (m ∷ ns) [] i n x e f = absurd cc
pair_item (m ∷ ns) (y ∷ xs) zero n x e f = let g : Some m ≡ Some n = e in let h : Some y ≡ Some x = f in let a : m ≡ n = cc in let b : y ≡ x = cc in λ j. Some (a j, b j)
pair_item (m ∷ ns) (y ∷ xs) (suc i) n x e f = pair_item ns xs i n x e f

pub item_there : {B : Type 0} (xs : List B) (i : ℕ) → i < length xs → (x : B) × (item_at xs i ≡ Some x)
item_there [] i low = absurd (omega (arith, low))
item_there (x ∷ xs) zero low = (x, refl)
item_there (x ∷ xs) (suc i) low = item_there xs i (omega (arith, low))

pub turns_post : {T : Type 0} (ss : List (ℕ × T)) (k i n : ℕ) (x : T) → item_at ss i ≡ Some (n, x) → IsPost n (TurnIn (k + i) x) (turns_from k ss)
turns_post [] k i n x e = absurd cc
turns_post (s ∷ ss) k zero n x e = inl (let g : Some s ≡ Some (n, x) = e in let h : s ≡ (n, x) = cc in let z : k ≡ k + 0 = omega arith in (ap (λ (y : ℕ × _). y.0) h, λ j. TurnIn (z j) (h j).1))
turns_post (s ∷ ss) k (suc i) n x e = inr (let z : k + 1 + i ≡ k + suc i = omega arith in subst (λ t. IsPost n (TurnIn t x) (turns_from (k + 1) ss)) z (turns_post ss (k + 1) i n x e))

pub idle_post : (T : Type 0) {B : Type 0} (ss : List (ℕ × B)) (n : ℕ) → In n (names_of ss) → IsPost {T = T} n Idle (all_at (λ x. Idle) ss)
idle_post T [] n i = absurd i
idle_post T (s ∷ ss) n (inl e) = inl (sym e, refl)
idle_post T (s ∷ ss) n (inr i) = inr (idle_post T ss n i)

pub rest_post : (T : Type 0) (ns : List ℕ) (n : ℕ) → In n ns → IsPost {T = T} n Idle (idle_posts ns)
rest_post T [] n i = absurd i
rest_post T (m ∷ ns) n (inl e) = inl (sym e, refl)
rest_post T (m ∷ ns) n (inr i) = inr (rest_post T ns n i)

-- the items of names that put one each
pub puts_on : {T : Type 0} (ss : List (ℕ × T)) (i n : ℕ) (x : T) → item_at ss i ≡ Some (n, x) → item_at (items_put (marks_on (λ x. made.Put x) ss)) i ≡ Some x
puts_on [] i n x e = absurd cc
puts_on (s ∷ ss) zero n x e = let g : Some s ≡ Some (n, x) = e in let h : s ≡ (n, x) = cc in ap (λ (z : ℕ × _). Some z.1) h
puts_on (s ∷ ss) (suc i) n x e = puts_on ss i n x e

pub item_behind : {A : Type 0} (f g : List A) (i : ℕ) → item_at (f ++ g) (length f + i) ≡ item_at g i
item_behind [] g i = ap (item_at g) (zero_first i)
  where
    zero_first : (i : ℕ) → 0 + i ≡ i
    zero_first i = omega arith
item_behind (x ∷ f) g i = let z : suc (length f) + i ≡ suc (length f + i) = omega arith in ap (item_at (x ∷ f ++ g)) z ∙ item_behind f g i

-- ---- the claim

module _ {T : Type 0} {size seats : ℕ} (ns : List ℕ) (xs : List T) (apart : AreApart ns) (fit : length xs ≤ length ns) (k j : ℕ) (m after : QueueHolder T) (own : m.0.names ≡ ns) (c : ClaimedBurst size seats ns xs k j m after) where
  first_item : (i n : ℕ) (x : T) → item_at ns i ≡ Some n → i < j → item_at xs i ≡ Some x → item_at (take j (pair_up ns xs)) i ≡ Some (n, x)
  first_item i n x e low f = item_take (pair_up ns xs) j i low ∙ pair_item ns xs i n x e f

  last_item : (i n : ℕ) (x : T) → item_at ns i ≡ Some n → j ≤ i → item_at xs i ≡ Some x → item_at (drop j (pair_up ns xs)) (i - j) ≡ Some (n, x)
  last_item i n x e high f = let z : j + (i - j) ≡ i = omega (arith, high) in item_drop (pair_up ns xs) j (i - j) ∙ (ap (item_at (pair_up ns xs)) z ∙ pair_item ns xs i n x e f)

  rest_in : (i n : ℕ) → item_at ns i ≡ Some n → length xs ≤ i → In n (drop (length xs) ns)
  rest_in i n e high = let z : length xs + (i - length xs) ≡ i = omega (arith, high) in item_in (drop (length xs) ns) (i - length xs) n (item_drop ns (length xs) (i - length xs) ∙ (ap (item_at ns) z ∙ e))

  pub claim_stands : Filling ns k 0 0 j (take j xs) after.0
  claim_stands =
      let most = c.most in
      record {
        all_are = c.makes.names ∙ own;
        done = λ i n e low. absurd (omega (arith, low));
        full = λ i n e above below. absurd (omega (arith, below));
        waits = λ i n x e above below at.
            let z : i - 0 ≡ i = omega arith in
            let f : item_at xs i ≡ Some x = sym (item_take xs j i below) ∙ (sym (ap (item_at (take j xs)) z) ∙ at) in
            (turns_from k (take j (pair_up ns xs)) ++ (all_at (λ x. Idle) (drop j (pair_up ns xs)) ++ idle_posts (drop (length xs) ns)), c.phase, post_left (turns_from k (take j (pair_up ns xs))) (all_at (λ x. Idle) (drop j (pair_up ns xs)) ++ idle_posts (drop (length xs) ns)) n (TurnIn (k + i) x) (turns_post (take j (pair_up ns xs)) k i n x (first_item i n x e below f)));
        rests = λ i n e above. (
          turns_from k (take j (pair_up ns xs)) ++ (all_at (λ x. Idle) (drop j (pair_up ns xs)) ++ idle_posts (drop (length xs) ns)),
          c.phase,
          post_right (turns_from k (take j (pair_up ns xs))) (all_at (λ x. Idle) (drop j (pair_up ns xs)) ++ idle_posts (drop (length xs) ns)) n Idle (elim (le_or_lt (length xs) i) [
            | inl high ↦ post_right (all_at (λ x. Idle) (drop j (pair_up ns xs))) (idle_posts (drop (length xs) ns)) n Idle (rest_post T (drop (length xs) ns) n (rest_in i n e high))
            | inr low ↦ (let x = item_there xs i low in post_left (all_at (λ x. Idle) (drop j (pair_up ns xs))) (idle_posts (drop (length xs) ns)) n Idle (idle_post T (drop j (pair_up ns xs)) n (pair_in (drop j (pair_up ns xs)) (i - j) n x.0 (last_item i n x.0 e above x.1))))
          ]),
        );
        some = length-take-le j xs most ∙ omega arith;
        order = (omega arith, omega arith, omega (arith, most, fit));
      }

  among : (i n : ℕ) → item_at ns i ≡ Some n → In n m.0.names
  among i n e = subst (In n) (sym own) (item_in ns i n e)

  -- the marks of a name, block by block
  in_blocks : (n : ℕ) → In n m.0.names → marks_of seat_of n (reverse after.0.seen) ≡ marks_of seat_of n (reverse m.0.seen)
      ++ ((marks_of seat_of n (marks_on (λ (x : T). made.ClaimIn) (take j (pair_up ns xs))) ++ marks_of seat_of n (marks_on (λ (x : T). made.OverIn) (drop j (pair_up ns xs))))
      ++ (marks_of seat_of n (marks_on (λ (x : T). made.BackIn) (drop j (pair_up ns xs))) ++ marks_of seat_of n (marks_on (λ x. made.Put x) (take j (pair_up ns xs)))))
  in_blocks n i =
      let A = marks_back (λ x. made.Put x) (take j (pair_up ns xs)) in
      let B = marks_back {A = T} (λ (x : T). made.BackIn) (drop j (pair_up ns xs)) in
      let C = marks_back {A = T} (λ (x : T). made.OverIn) (drop j (pair_up ns xs)) in
      let D = marks_back {A = T} (λ (x : T). made.ClaimIn) (take j (pair_up ns xs)) in
      let turn : reverse (A ++ (B ++ (C ++ D))) ≡ (reverse D ++ reverse C) ++ (reverse B ++ reverse A) =
      reverse-append A (B ++ (C ++ D)) ∙ ((λ q. (reverse-append B (C ++ D) ∙ ap (λ h. h ++ reverse B) (reverse-append C D)) q ++ reverse A) ∙ append_assoc (reverse D ++ reverse C) (reverse B) (reverse A)) in
      let each : (reverse D ++ reverse C) ++ (reverse B ++ reverse A) ≡ (marks_on (λ (x : T). made.ClaimIn) (take j (pair_up ns xs)) ++ marks_on (λ (x : T). made.OverIn) (drop j (pair_up ns xs))) ++ (marks_on (λ (x : T). made.BackIn) (drop j (pair_up ns xs)) ++ marks_on (λ x. made.Put x) (take j (pair_up ns xs))) =
      (λ q. (marks_turned (λ (x : T). made.ClaimIn) (take j (pair_up ns xs)) q ++ marks_turned (λ (x : T). made.OverIn) (drop j (pair_up ns xs)) q) ++ (marks_turned (λ (x : T). made.BackIn) (drop j (pair_up ns xs)) q ++ marks_turned (λ x. made.Put x) (take j (pair_up ns xs)) q)) in
      let a = marks_on (λ x. made.Put x) (take j (pair_up ns xs)) in
      let b = marks_on {A = T} (λ (x : T). made.BackIn) (drop j (pair_up ns xs)) in
      let d = marks_on {A = T} (λ (x : T). made.OverIn) (drop j (pair_up ns xs)) in
      let e = marks_on {A = T} (λ (x : T). made.ClaimIn) (take j (pair_up ns xs)) in
      let split : marks_of seat_of n ((e ++ d) ++ (b ++ a)) ≡ (marks_of seat_of n e ++ marks_of seat_of n d) ++ (marks_of seat_of n b ++ marks_of seat_of n a) =
      marks_of_append seat_of n (e ++ d) (b ++ a) ∙ (λ q. marks_of_append seat_of n e d q ++ marks_of_append seat_of n b a q) in
      c.makes.mine n i ∙ ap (λ h. marks_of seat_of n (reverse m.0.seen) ++ h) (ap (marks_of seat_of n) (turn ∙ each) ∙ split)

  pub claim_granted : (i n : ℕ) (x : T) → item_at ns i ≡ Some n → i < j → item_at xs i ≡ Some x → MadeBy n (made.ClaimIn ∷ made.Put x ∷ []) m after
  claim_granted i n x e low f =
      let it = first_item i n x e low f in
      let once' = once_granted T ns xs apart fit j in
      let out : In n (names_of (drop j (pair_up ns xs))) → ⊥ = λ z. not_both T ns xs apart fit j n (pair_in (take j (pair_up ns xs)) i n x it) z in
      in_blocks n (among i n e) ∙ ap (λ h. marks_of seat_of n (reverse m.0.seen) ++ h)
      (λ q. (own_mark (λ (x : T). made.ClaimIn) (take j (pair_up ns xs)) i n x once' it q ++ no_marks (λ (x : T). made.OverIn) (drop j (pair_up ns xs)) n out q) ++ (no_marks (λ (x : T). made.BackIn) (drop j (pair_up ns xs)) n out q ++ own_mark (λ x. made.Put x) (take j (pair_up ns xs)) i n x once' it q))

  pub claim_over : (i n : ℕ) → item_at ns i ≡ Some n → j ≤ i → i < length xs → MadeBy n (made.OverIn ∷ made.BackIn ∷ []) m after
  claim_over i n e high low =
      let x = item_there xs i low in
      let it = last_item i n x.0 e high x.1 in
      let once' = once_over T ns xs apart fit j in
      let out : In n (names_of (take j (pair_up ns xs))) → ⊥ = λ z. not_both T ns xs apart fit j n z (pair_in (drop j (pair_up ns xs)) (i - j) n x.0 it) in
      in_blocks n (among i n e) ∙ ap (λ h. marks_of seat_of n (reverse m.0.seen) ++ h)
      (λ q. (no_marks (λ (x : T). made.ClaimIn) (take j (pair_up ns xs)) n out q ++ own_mark (λ (x : T). made.OverIn) (drop j (pair_up ns xs)) (i - j) n x.0 once' it q) ++ (own_mark (λ (x : T). made.BackIn) (drop j (pair_up ns xs)) (i - j) n x.0 once' it q ++ no_marks (λ x. made.Put x) (take j (pair_up ns xs)) n out q))

  pub claim_others : (i n : ℕ) → item_at ns i ≡ Some n → length xs ≤ i → MadeBy n [] m after
  claim_others i n e high =
      let none : In n (names_of (pair_up ns xs)) → ⊥ = λ z. from_rest T ns xs apart fit n z (subst (In n) (sym (idle_names T (drop (length xs) ns))) (rest_in i n e high)) in
      let a : In n (names_of (take j (pair_up ns xs))) → ⊥ = λ z. none (in_granted T ns xs apart fit j n z) in
      let b : In n (names_of (drop j (pair_up ns xs))) → ⊥ = λ z. none (in_over T ns xs apart fit j n z) in
      in_blocks n (among i n e) ∙ ap (λ h. marks_of seat_of n (reverse m.0.seen) ++ h)
      (λ q. (no_marks (λ (x : T). made.ClaimIn) (take j (pair_up ns xs)) n a q ++ no_marks (λ (x : T). made.OverIn) (drop j (pair_up ns xs)) n b q) ++ (no_marks (λ (x : T). made.BackIn) (drop j (pair_up ns xs)) n b q ++ no_marks (λ x. made.Put x) (take j (pair_up ns xs)) n a q))

  pub claim_put : (i : ℕ) (x : T) → i < j → item_at xs i ≡ Some x → item_at (items_put (reverse after.0.seen)) (k + i) ≡ Some x
  claim_put i x low f =
      let most = c.most in
      let named = item_there ns i (omega (arith, low, most, fit)) in
      let it = first_item i named.0 x named.1 low f in
      let on = marks_on (λ x. made.Put x) (take j (pair_up ns xs)) in
      let seen : reverse after.0.seen ≡ reverse c.past ++ on = ap reverse c.puts_last ∙ (reverse-append (marks_back (λ x. made.Put x) (take j (pair_up ns xs))) c.past ∙ ap (λ h. reverse c.past ++ h) (marks_turned (λ x. made.Put x) (take j (pair_up ns xs)))) in
      let long : length (items_put (reverse c.past)) ≡ k = items_count (reverse c.past) ∙ c.ticket in
      ap (λ h. item_at (items_put h) (k + i)) seen ∙ (ap (λ l. item_at l (k + i)) (flat_map-append put_in (reverse c.past) on)
      ∙ (ap (λ t. item_at (items_put (reverse c.past) ++ items_put on) (t + i)) (sym long) ∙ (item_behind (items_put (reverse c.past)) (items_put on) i ∙ puts_on (take j (pair_up ns xs)) i named.0 x it)))

  pub claim_ticket : (i n : ℕ) (x : T) → item_at ns i ≡ Some n → i < j → item_at xs i ≡ Some x → count puts (before_part n 1 m after) ≡ k + i
  claim_ticket i n x e low f =
      let ss = take j (pair_up ns xs) in
      let seen : reverse after.0.seen ≡ reverse c.past ++ marks_on (λ x. made.Put x) ss = ap reverse c.puts_last ∙ (reverse-append (marks_back (λ x. made.Put x) ss) c.past ∙ ap (λ h. reverse c.past ++ h) (marks_turned (λ x. made.Put x) ss)) in
      let many : length (marks_of seat_of n (reverse after.0.seen)) ≡ suc (length (marks_of seat_of n (reverse m.0.seen)) + 1) =
      (let a = ap length (claim_granted i n x e low f) ∙ length-append (marks_of seat_of n (reverse m.0.seen)) (made_by n (made.ClaimIn ∷ made.Put x ∷ [])) in omega (arith, a)) in
      before_block puts (λ x. made.Put x) (λ y. refl) ss i n x (once_granted T ns xs apart fit j) (first_item i n x e low f) (reverse c.past) (reverse after.0.seen) k (length (marks_of seat_of n (reverse m.0.seen)) + 1) seen many c.ticket

  pub claim_drew : (i n : ℕ) (x : T) → item_at ns i ≡ Some n → i < j → item_at xs i ≡ Some x → Drew (reverse after.0.seen) n (made.Put x) puts (k + i)
  claim_drew i n x e low f =
      let ss = take j (pair_up ns xs) in
      let seen : reverse after.0.seen ≡ reverse c.past ++ marks_on (λ x. made.Put x) ss = ap reverse c.puts_last ∙ (reverse-append (marks_back (λ x. made.Put x) ss) c.past ∙ ap (λ h. reverse c.past ++ h) (marks_turned (λ x. made.Put x) ss)) in
      drew_in_block puts (λ x. made.Put x) (λ y. refl) ss i n x (once_granted T ns xs apart fit j) (first_item i n x e low f) (reverse c.past) (reverse after.0.seen) k seen c.ticket

  pub claim_last : (i n : ℕ) (x : T) → item_at ns i ≡ Some n → i + 1 ≡ j → item_at xs i ≡ Some x → EndsWith n (made.Put x ∷ []) after
  claim_last i n x e last f =
      let most = c.most in
      let long : length (take j (pair_up ns xs)) ≡ j = length-take-le j (pair_up ns xs) (omega (arith, most, pair_length ns xs fit)) in
      last_in_block (λ x. made.Put x) (take j (pair_up ns xs)) i n x (first_item i n x e (omega (arith, last)) f) (last ∙ sym long) c.past after.0.seen c.puts_last

  pub claims_on : ClaimsOn size seats ns xs k j m after
  claims_on = record {
    some = c.some;
    most = c.most;
    stands = claim_stands;
    left = c.left;
    slots = c.makes.slots;
    begins = c.makes.begins;
    lawful = record { lawful = c.makes.lawful; named = c.makes.named };
    granted = claim_granted;
    over = claim_over;
    others = claim_others;
    ticket = claim_ticket;
    put = claim_put;
    few = c.few;
    drew = claim_drew;
    last = claim_last;
  }
