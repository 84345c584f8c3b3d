-- The claim of a burst of deletions, name by name.
use Rattle.std.specs.Prelude.{zero, suc, take, drop}
use Rattle.std.proofs.lemmas.List.{reverse-append, length-take-le}
use Rattle.fak_model.specs.declared.queue.Kind.TheVariants as made
use Rattle.fak_model.specs.Queue.{Drew}
use Rattle.fak_model.proofs.Seats.{marks_of_append}
use Rattle.fak_core.specs.declared.queue.phase.Phase.TheVariants.{Idle, TurnOut}
use Rattle.fak_core.specs.QueueBlocks.{names_of, AreApart, all_at, turns_out_from, ArePut, marks_back}
use Rattle.fak_queue.specs.Bursts.{ClaimedOutBurst, idle_posts, pair_up}
use Rattle.fak_queue.specs.Bundles.{Emptying, ClaimsOutOn, MadeBy, EndsWith}
use Rattle.fak_queue.proofs.BurstPosts.{post_left, post_right}
use Rattle.fak_queue.proofs.BurstNames.{idle_names, from_rest, in_granted, in_over, once_granted, once_over, not_both, pair_length}
use Rattle.fak_queue.proofs.BundleLists.{item_in, item_drop, item_take, marks_on, marks_turned, no_marks}
use Rattle.fak_queue.proofs.Common.{before_part, count, gots, length-append, made_by, refl, IsPost, QueueHolder, Mark, seat_of, marks_of, item_at, items_put, In, ◌≡◌, ℕ, ◌+◌, ◌-◌, ◌<◌, ◌≤◌, List, [], ◌∷◌, ◌++◌, length, reverse, sym, ap, ◌∙◌, subst, inl, inr, arith, append_assoc, Some, le_or_lt}
use Rattle.fak_queue.proofs.BundleClaims.{pair_item, item_there, idle_post, rest_post}
use Rattle.fak_queue.proofs.BundlePlaces.{pair_in, own_mark, before_block}
use Rattle.fak_queue.proofs.LastMarks.{drew_in_block, last_in_block}
use Rattle.fak_queue.proofs.BundleLists.{put_more}

turns_out_post : (T : Type 0) {B : Type 0} (ss : List (ℕ × B)) (k i n : ℕ) (x : B) → item_at ss i ≡ Some (n, x) → IsPost {T = T} n (TurnOut (k + i)) (turns_out_from k ss)
turns_out_post T [] k i n x e = absurd cc
turns_out_post T (s ∷ ss) k zero n x e = inl (let g : Some s ≡ Some (n, x) = e in let h : s ≡ (n, x) = cc in let z : k ≡ k + 0 = omega arith in (ap (λ (y : ℕ × _). y.0) h, ap (λ t. TurnOut t) z))
turns_out_post T (s ∷ ss) k (suc i) n x e = inr (let z : k + 1 + i ≡ k + suc i = omega arith in subst (λ t. IsPost {T = T} n (TurnOut t) (turns_out_from (k + 1) ss)) z (turns_out_post T ss (k + 1) i n x e))

-- names that are the same have the same numbers
named_item : {A B : Type 0} (f : List (ℕ × A)) (g : List (ℕ × B)) → names_of f ≡ names_of g → (i n : ℕ) (y : B) → item_at g i ≡ Some (n, y) → (x : A) × (item_at f i ≡ Some (n, x))
named_item f [] e i n y at = absurd cc
named_item [] (t ∷ g) e i n y at = absurd cc
named_item (s ∷ f) (t ∷ g) e zero n y at =
    let a : Some t ≡ Some (n, y) = at in
    let b : t ≡ (n, y) = cc in
    let c : s.0 ∷ names_of f ≡ t.0 ∷ names_of g = e in
    let d : s.0 ≡ t.0 = cc in
    let name : s.0 ≡ n = d ∙ ap (λ (z : ℕ × _). z.0) b in
    (s.1, λ j. Some (name j, s.1))
named_item (s ∷ f) (t ∷ g) e (suc i) n y at = let c : s.0 ∷ names_of f ≡ t.0 ∷ names_of g = e in let d : names_of f ≡ names_of g = cc in named_item f g d i n y at

names_length : {A : Type 0} (ss : List (ℕ × A)) → length ss ≡ length (names_of ss)
names_length [] = refl
names_length (s ∷ ss) = ap suc (names_length ss)

put_at : {T : Type 0} (past : List (Mark T)) (ss : List (ℕ × T)) (k i n : ℕ) (x : T) → ArePut past k ss → item_at ss i ≡ Some (n, x) → item_at (items_put (reverse past)) (k + i) ≡ Some x
put_at past [] k i n x all e = absurd cc
put_at past (s ∷ ss) k zero n x all e =
    let a : Some s ≡ Some (n, x) = e in
    let b : s ≡ (n, x) = cc in
    let z : k ≡ k + 0 = omega arith in
    subst (λ (v : ℕ × _). item_at (items_put (reverse past)) v.0 ≡ Some v.1) (λ j. (z j, (b j).1)) all.0
put_at past (s ∷ ss) k (suc i) n x all e = let z : k + 1 + i ≡ k + suc i = omega arith in subst (λ t. item_at (items_put (reverse past)) t ≡ Some x) z (put_at past ss (k + 1) i n x all.1 e)

-- ---- the claim

module _ {T : Type 0} {size seats : ℕ} (ns : List ℕ) (us : List (Unit {0})) (apart : AreApart ns) (fit : length us ≤ length ns) (k j : ℕ) (m after : QueueHolder T) (own : m.0.names ≡ ns) (c : ClaimedOutBurst size seats ns us k j m after) where
  first_item : (i n : ℕ) (x : Unit {0}) → item_at ns i ≡ Some n → i < j → item_at us i ≡ Some x → item_at (take j (pair_up ns us)) i ≡ Some (n, x)
  first_item i n x e low f = item_take (pair_up ns us) j i low ∙ pair_item ns us i n x e f

  last_item : (i n : ℕ) (x : Unit {0}) → item_at ns i ≡ Some n → j ≤ i → item_at us i ≡ Some x → item_at (drop j (pair_up ns us)) (i - j) ≡ Some (n, x)
  last_item i n x e high f = let z : j + (i - j) ≡ i = omega (arith, high) in item_drop (pair_up ns us) j (i - j) ∙ (ap (item_at (pair_up ns us)) z ∙ pair_item ns us i n x e f)

  rest_in : (i n : ℕ) → item_at ns i ≡ Some n → length us ≤ i → In n (drop (length us) ns)
  rest_in i n e high = let z : length us + (i - length us) ≡ i = omega (arith, high) in item_in (drop (length us) ns) (i - length us) n (item_drop ns (length us) (i - length us) ∙ (ap (item_at ns) z ∙ e))

  pub claim_stands : Emptying ns k 0 0 j after.0
  claim_stands =
      let most = c.most in
      let turns = turns_out_from {A = T} k (take j (pair_up ns us)) in
      let idle = all_at {A = T} (λ (x : Unit {0}). Idle) (drop j (pair_up ns us)) in
      let others = idle_posts {T = T} (drop (length us) ns) in
      record {
        all_are = c.makes.names ∙ own;
        done = λ i n e low. absurd (omega (arith, low));
        free = λ i n e above below. absurd (omega (arith, below));
        waits = λ i n e above below.
            let x = item_there us i (omega (arith, below, most)) in
            (turns ++ (idle ++ others), c.phase, post_left turns (idle ++ others) n (TurnOut (k + i)) (turns_out_post T (take j (pair_up ns us)) k i n x.0 (first_item i n x.0 e below x.1)));
        rests = λ i n e above. (
          turns ++ (idle ++ others),
          c.phase,
          post_right turns (idle ++ others) n Idle (elim (le_or_lt (length us) i) [
            | inl high ↦ post_right idle others n Idle (rest_post T (drop (length us) ns) n (rest_in i n e high))
            | inr low ↦ (let x = item_there us i low in post_left idle others n Idle (idle_post T (drop j (pair_up ns us)) n (pair_in (drop j (pair_up ns us)) (i - j) n x.0 (last_item i n x.0 e above x.1))))
          ]),
        );
        order = (omega arith, omega arith, omega (arith, most, fit));
      }

  among : (i n : ℕ) → item_at ns i ≡ Some n → In n m.0.names
  among i n e = subst (In n) (sym own) (item_in ns i n e)

  -- the marks of a name, block by block
  in_blocks : (n : ℕ) → In n m.0.names → marks_of seat_of n (reverse after.0.seen) ≡ marks_of seat_of n (reverse m.0.seen)
      ++ ((marks_of seat_of n (marks_on (λ (x : Unit {0}). made.ClaimOut) (take j (pair_up ns us))) ++ marks_of seat_of n (marks_on (λ (x : Unit {0}). made.OverOut) (drop j (pair_up ns us))))
      ++ (marks_of seat_of n (marks_on (λ (x : Unit {0}). made.BackOut) (drop j (pair_up ns us))) ++ marks_of seat_of n (marks_on (λ x. made.Got x) c.drawn)))
  in_blocks n i =
      let A = marks_back (λ x. made.Got x) c.drawn in
      let B = marks_back {A = T} (λ (x : Unit {0}). made.BackOut) (drop j (pair_up ns us)) in
      let C = marks_back {A = T} (λ (x : Unit {0}). made.OverOut) (drop j (pair_up ns us)) in
      let D = marks_back {A = T} (λ (x : Unit {0}). made.ClaimOut) (take j (pair_up ns us)) in
      let turn : reverse (A ++ (B ++ (C ++ D))) ≡ (reverse D ++ reverse C) ++ (reverse B ++ reverse A) =
      reverse-append A (B ++ (C ++ D)) ∙ ((λ q. (reverse-append B (C ++ D) ∙ ap (λ h. h ++ reverse B) (reverse-append C D)) q ++ reverse A) ∙ append_assoc (reverse D ++ reverse C) (reverse B) (reverse A)) in
      let each : (reverse D ++ reverse C) ++ (reverse B ++ reverse A) ≡ (marks_on (λ (x : Unit {0}). made.ClaimOut) (take j (pair_up ns us)) ++ marks_on (λ (x : Unit {0}). made.OverOut) (drop j (pair_up ns us))) ++ (marks_on (λ (x : Unit {0}). made.BackOut) (drop j (pair_up ns us)) ++ marks_on (λ x. made.Got x) c.drawn) =
      (λ q. (marks_turned (λ (x : Unit {0}). made.ClaimOut) (take j (pair_up ns us)) q ++ marks_turned (λ (x : Unit {0}). made.OverOut) (drop j (pair_up ns us)) q) ++ (marks_turned (λ (x : Unit {0}). made.BackOut) (drop j (pair_up ns us)) q ++ marks_turned (λ x. made.Got x) c.drawn q)) in
      let a = marks_on (λ x. made.Got x) c.drawn in
      let b = marks_on {A = T} (λ (x : Unit {0}). made.BackOut) (drop j (pair_up ns us)) in
      let d = marks_on {A = T} (λ (x : Unit {0}). made.OverOut) (drop j (pair_up ns us)) in
      let e = marks_on {A = T} (λ (x : Unit {0}). made.ClaimOut) (take j (pair_up ns us)) in
      let split : marks_of seat_of n ((e ++ d) ++ (b ++ a)) ≡ (marks_of seat_of n e ++ marks_of seat_of n d) ++ (marks_of seat_of n b ++ marks_of seat_of n a) =
      marks_of_append seat_of n (e ++ d) (b ++ a) ∙ (λ q. marks_of_append seat_of n e d q ++ marks_of_append seat_of n b a q) in
      c.makes.mine n i ∙ ap (λ h. marks_of seat_of n (reverse m.0.seen) ++ h) (ap (marks_of seat_of n) (turn ∙ each) ∙ split)

  pub claim_granted : (i n : ℕ) → item_at ns i ≡ Some n → i < j → (x : T) × MadeBy n (made.ClaimOut ∷ made.Got x ∷ []) m after × (item_at (items_put (reverse after.0.seen)) (k + i) ≡ Some x) × (count gots (before_part n 1 m after) ≡ k + i)
  claim_granted i n e low =
      let most = c.most in
      let u = item_there us i (omega (arith, low, most)) in
      let it = first_item i n u.0 e low u.1 in
      let d = named_item c.drawn (take j (pair_up ns us)) c.names i n u.0 it in
      let once' = once_granted T ns us apart fit j in
      let once'' = subst AreApart (sym c.names) once' in
      let out : In n (names_of (drop j (pair_up ns us))) → ⊥ = λ z. not_both T ns us apart fit j n (pair_in (take j (pair_up ns us)) i n u.0 it) z in
      let seen : reverse after.0.seen ≡ reverse c.past ++ reverse (marks_back (λ x. made.Got x) c.drawn) = ap reverse c.gots_last ∙ reverse-append (marks_back (λ x. made.Got x) c.drawn) c.past in
      let by : MadeBy n (made.ClaimOut ∷ made.Got d.0 ∷ []) m after =
      in_blocks n (among i n e) ∙ ap (λ h. marks_of seat_of n (reverse m.0.seen) ++ h)
      (λ q. (own_mark (λ (x : Unit {0}). made.ClaimOut) (take j (pair_up ns us)) i n u.0 once' it q ++ no_marks (λ (x : Unit {0}). made.OverOut) (drop j (pair_up ns us)) n out q) ++ (no_marks (λ (x : Unit {0}). made.BackOut) (drop j (pair_up ns us)) n out q ++ own_mark (λ x. made.Got x) c.drawn i n d.0 once'' d.1 q)) in (
        d.0,
        by,
        put_more (reverse c.past) (reverse after.0.seen) (k + i) d.0 (reverse (marks_back (λ x. made.Got x) c.drawn), sym seen) (put_at c.past c.drawn k i n d.0 c.put d.1),
        before_block gots (λ x. made.Got x) (λ y. refl) c.drawn i n d.0 once'' d.1 (reverse c.past) (reverse after.0.seen) k (length (marks_of seat_of n (reverse m.0.seen)) + 1) (seen ∙ ap (λ h. reverse c.past ++ h) (marks_turned (λ x. made.Got x) c.drawn))
            (let a = ap length by ∙ length-append (marks_of seat_of n (reverse m.0.seen)) (made_by n (made.ClaimOut ∷ made.Got d.0 ∷ [])) in omega (arith, a)) c.ticket,
      )

  pub claim_over : (i n : ℕ) → item_at ns i ≡ Some n → j ≤ i → i < length us → MadeBy n (made.OverOut ∷ made.BackOut ∷ []) m after
  claim_over i n e high low =
      let x = item_there us i low in
      let it = last_item i n x.0 e high x.1 in
      let once' = once_over T ns us apart fit j in
      let out : In n (names_of (take j (pair_up ns us))) → ⊥ = λ z. not_both T ns us apart fit j n z (pair_in (drop j (pair_up ns us)) (i - j) n x.0 it) in
      in_blocks n (among i n e) ∙ ap (λ h. marks_of seat_of n (reverse m.0.seen) ++ h)
      (λ q. (no_marks (λ (x : Unit {0}). made.ClaimOut) (take j (pair_up ns us)) n out q ++ own_mark (λ (x : Unit {0}). made.OverOut) (drop j (pair_up ns us)) (i - j) n x.0 once' it q) ++ (own_mark (λ (x : Unit {0}). made.BackOut) (drop j (pair_up ns us)) (i - j) n x.0 once' it q ++ no_marks (λ x. made.Got x) c.drawn n (λ z. out (subst (In n) c.names z)) q))

  pub claim_others : (i n : ℕ) → item_at ns i ≡ Some n → length us ≤ i → MadeBy n [] m after
  claim_others i n e high =
      let none : In n (names_of (pair_up ns us)) → ⊥ = λ z. from_rest T ns us apart fit n z (subst (In n) (sym (idle_names T (drop (length us) ns))) (rest_in i n e high)) in
      let a : In n (names_of (take j (pair_up ns us))) → ⊥ = λ z. none (in_granted T ns us apart fit j n z) in
      let b : In n (names_of (drop j (pair_up ns us))) → ⊥ = λ z. none (in_over T ns us apart fit j n z) in
      in_blocks n (among i n e) ∙ ap (λ h. marks_of seat_of n (reverse m.0.seen) ++ h)
      (λ q. (no_marks (λ (x : Unit {0}). made.ClaimOut) (take j (pair_up ns us)) n a q ++ no_marks (λ (x : Unit {0}). made.OverOut) (drop j (pair_up ns us)) n b q) ++ (no_marks (λ (x : Unit {0}). made.BackOut) (drop j (pair_up ns us)) n b q ++ no_marks (λ x. made.Got x) c.drawn n (λ z. a (subst (In n) c.names z)) q))

  -- the item that the name drew
  drawn_item : (i n : ℕ) → item_at ns i ≡ Some n → i < j → (x : T) × (item_at c.drawn i ≡ Some (n, x))
  drawn_item i n e low =
      let most = c.most in
      let u = item_there us i (omega (arith, low, most)) in
      named_item c.drawn (take j (pair_up ns us)) c.names i n u.0 (first_item i n u.0 e low u.1)

  pub claim_drew : (i n : ℕ) → item_at ns i ≡ Some n → i < j → (x : T) × Drew (reverse after.0.seen) n (made.Got x) gots (k + i)
  claim_drew i n e low =
      let d = drawn_item i n e low in
      let seen : reverse after.0.seen ≡ reverse c.past ++ marks_on (λ x. made.Got x) c.drawn = ap reverse c.gots_last ∙ (reverse-append (marks_back (λ x. made.Got x) c.drawn) c.past ∙ ap (λ h. reverse c.past ++ h) (marks_turned (λ x. made.Got x) c.drawn)) in
      (d.0, drew_in_block gots (λ x. made.Got x) (λ y. refl) c.drawn i n d.0 (subst AreApart (sym c.names) (once_granted T ns us apart fit j)) d.1 (reverse c.past) (reverse after.0.seen) k seen c.ticket)

  pub claim_last : (i n : ℕ) (x : T) → item_at ns i ≡ Some n → i + 1 ≡ j → item_at (items_put (reverse after.0.seen)) (k + i) ≡ Some x → EndsWith n (made.Got x ∷ []) after
  claim_last i n x e last there =
      let most = c.most in
      let d = drawn_item i n e (omega (arith, last)) in
      let seen : reverse after.0.seen ≡ reverse c.past ++ reverse (marks_back (λ x. made.Got x) c.drawn) = ap reverse c.gots_last ∙ reverse-append (marks_back (λ x. made.Got x) c.drawn) c.past in
      let put : item_at (items_put (reverse after.0.seen)) (k + i) ≡ Some d.0 = put_more (reverse c.past) (reverse after.0.seen) (k + i) d.0 (reverse (marks_back (λ x. made.Got x) c.drawn), sym seen) (put_at c.past c.drawn k i n d.0 c.put d.1) in
      let same : d.0 ≡ x = (let both : Some d.0 ≡ Some x = sym put ∙ there in cc) in
      let long : length c.drawn ≡ j = names_length c.drawn ∙ (ap length c.names ∙ (sym (names_length (take j (pair_up ns us))) ∙ length-take-le j (pair_up ns us) (omega (arith, most, pair_length ns us fit)))) in
      subst (λ y. EndsWith n (made.Got y ∷ []) after) same (last_in_block (λ x. made.Got x) c.drawn i n d.0 d.1 (last ∙ sym long) c.past after.0.seen c.gots_last)

  pub claims_out_on : ClaimsOutOn size seats ns (length us) k j m after
  claims_out_on = record {
    some = c.some;
    most = c.most;
    stands = claim_stands;
    left = c.left;
    slots = c.makes.slots;
    begins = c.makes.begins;
    lawful = record { lawful = c.makes.lawful; named = c.makes.named };
    granted = claim_granted;
    over = claim_over;
    others = claim_others;
    few = c.few;
    drew = claim_drew;
    last = claim_last;
  }
