-- Several deletions at once: one load tests for them, one subtraction claims or ends for them, one add withdraws or
-- draws for them.
use Rattle.fak_model.specs.declared.queue.Kind.TheVariants as made
use Rattle.fak_model.specs.Seats.{In}
use Rattle.std.proofs.lemmas.List.{length-append, length-take, length-drop, take-append-drop}
use Rattle.std.specs.Prelude.{take, drop}
use Rattle.fak_core.proofs.Common.{Phase, Idle, TestLow, SubLow, BackLow, TicketOut, TurnOut, EndDelete, QueueState, QueueMove, Kind, Mark, ◌≡◌, ◌⊎◌, ℕ, ◌+◌, ◌-◌, ◌<◌, true, false, List, [], ◌∷◌, ◌++◌, length, Some, reverse, refl, sym, ap, ◌∙◌, subst, inl, inr, arith, ℤ, pos, ◌+ℤ◌, ◌-ℤ◌, ◌≤ℤ◌, int_lt, ints, min, with_at, moved, move_from, with_phase, ticket_out, IsReached, item_at, items_put, item_of, item_same, reverse-reverse, common_steps}
use Rattle.fak_core.proofs.QueueTurns.{at_else}
use Rattle.fak_core.proofs.QueueSteps.{by_test}
use Rattle.fak_core.proofs.QueueReached.{moves, kept, draws_put}
use Rattle.fak_core.proofs.QueueBlocks.{names-append, names-at, names-turns_out, apart_left, apart_right, apart_both, first_apart, stand_else, block-append, at-append, no_more, one_more, no_less, one_less, both_less, changes_then, changes_none, counts_as, one_step, one_test, no_items, not_both}
use Rattle.fak_core.specs.QueueSchedule.{after_step}
use Rattle.fak_core.specs.QueueBlocks.{names_of, AreApart, Stand, block, all_at, turns_out_from, marks_back, Changes, tested_low, AreTestedLow, GrantsLow, after_subs, AreSubtracted, AreWithdrawnOut, ArePut, AreDrawnOut, AreEndedOut}

-- ---- subtractions from the lower count

-- as many are granted as there are items
some_found : (l d : ℕ) → (min l d ≡ 0) ⊎ (pos (min l d) ≤ℤ pos l)
some_found l d = grind (arith, common_steps, ints, min)

rest_empty : (l d : ℕ) → (d - l ≡ 0) ⊎ (pos l ≤ℤ pos (min l d))
rest_empty l d = grind (arith, common_steps, ints, min)

module _ {A : Type 0} (size : ℕ) where
  -- the change by one subtraction
  abbrev OneSub : QueueState A → ℕ → QueueState A → Kind A → Phase A → Type 0
  OneSub st n c κ p = Changes st c ((record { seat = n; kind = κ }) ∷ []) st.upper (st.lower -ℤ pos 1) st.draws_in st.draws_out ((n, p) ∷ [])

  sub_granted : (st : QueueState A) (n : ℕ) → int_lt (pos 0) st.lower ≡ true → OneSub st n (move_from size st n SubLow) made.ClaimOut TicketOut
  sub_granted st n lt = by_test (λ (m : QueueMove A). OneSub st n (moved st n m) made.ClaimOut TicketOut) (int_lt (pos 0) st.lower) _ _
      (λ _. one_step st n made.ClaimOut TicketOut st.upper (st.lower -ℤ pos 1) st.draws_in st.draws_out) (λ b. not_both (int_lt (pos 0) st.lower) lt b)

  sub_over : (st : QueueState A) (n : ℕ) → int_lt (pos 0) st.lower ≡ false → OneSub st n (move_from size st n SubLow) made.OverOut BackLow
  sub_over st n ge = by_test (λ (m : QueueMove A). OneSub st n (moved st n m) made.OverOut BackLow) (int_lt (pos 0) st.lower) _ _
      (λ b. not_both (int_lt (pos 0) st.lower) b ge) (λ _. one_step st n made.OverOut BackLow st.upper (st.lower -ℤ pos 1) st.draws_in st.draws_out)

  -- the change by one test
  abbrev OneTest : QueueState A → ℕ → QueueState A → List (Mark A) → Phase A → Type 0
  OneTest st n c marks p = Changes st c marks st.upper st.lower st.draws_in st.draws_out ((n, p) ∷ [])

  test_stock : (st : QueueState A) (n : ℕ) → int_lt (pos 0) st.lower ≡ true → OneTest st n (move_from size (with_phase st n TestLow) n TestLow) [] SubLow
  test_stock st n lt = let b = with_phase st n TestLow in
      by_test (λ (m : QueueMove A). OneTest st n (moved b n m) [] SubLow) (int_lt (pos 0) st.lower) _ _
      (λ _. one_test st n [] TestLow SubLow) (λ b. not_both (int_lt (pos 0) st.lower) lt b)

  test_empty : (st : QueueState A) (n : ℕ) → int_lt (pos 0) st.lower ≡ false → OneTest st n (move_from size (with_phase st n TestLow) n TestLow) ((record { seat = n; kind = made.NoItem }) ∷ []) Idle
  test_empty st n ge = let b = with_phase st n TestLow in
      by_test (λ (m : QueueMove A). OneTest st n (moved b n m) ((record { seat = n; kind = made.NoItem }) ∷ []) Idle) (int_lt (pos 0) st.lower) _ _
      (λ b. not_both (int_lt (pos 0) st.lower) b ge) (λ _. one_test st n ((record { seat = n; kind = made.NoItem }) ∷ []) TestLow Idle)

module _ {A B : Type 0} (size : ℕ) where
  -- the change by all subtractions
  abbrev AllSub : QueueState A → QueueState A → (B → Kind A) → (B → Phase A) → List (ℕ × B) → Type 0
  AllSub st c f p ss = Changes st c (marks_back f ss) st.upper (st.lower -ℤ pos (length ss)) st.draws_in st.draws_out (all_at p ss)

  no_subs : (st : QueueState A) (f : B → Kind A) (p : B → Phase A) → AllSub st st f p []
  no_subs st f p = counts_as refl (no_less st.lower) refl refl (changes_none st)

  more_subs : (st b c : QueueState A) (f : B → Kind A) (p : B → Phase A) (s : ℕ × B) (ss : List (ℕ × B)) → (In s.0 (names_of ss) → ⊥) → OneSub size st s.0 b (f s.1) (p s.1) → AllSub b c f p ss → AllSub st c f p (s ∷ ss)
  more_subs st b c f p s ss out one rest =
      counts_as one.upper_is (one_less st.lower b.lower (length ss) one.lower_is) one.draws_in_is one.draws_out_is
      (changes_then ((s.0, p s.1) ∷ []) (all_at p ss) (first_apart s.0 (p s.1) (all_at p ss) (names_of ss) (names-at p ss) out) one rest)

  subs_granted : (st : QueueState A) (ss : List (ℕ × B)) → AreApart (names_of ss) → pos (length ss) ≤ℤ st.lower → AllSub st (after_subs size st ss) (λ x. made.ClaimOut) (λ x. TicketOut) ss
  subs_granted st [] apart fits = no_subs st (λ x. made.ClaimOut) (λ x. TicketOut)
  subs_granted st (s ∷ ss) apart fits =
      let lt : int_lt (pos 0) st.lower ≡ true = grind (arith, ints) in
      let one = sub_granted size st s.0 lt in
      let b = move_from size st s.0 SubLow in
      more_subs st b (after_subs size b ss) (λ x. made.ClaimOut) (λ x. TicketOut) s ss apart.0 one (subs_granted b ss apart.1 (let e = one.lower_is in omega (arith, ints, e, fits)))

  subs_over : (st : QueueState A) (ss : List (ℕ × B)) → AreApart (names_of ss) → st.lower ≤ℤ pos 0 → AllSub st (after_subs size st ss) (λ x. made.OverOut) (λ x. BackLow) ss
  subs_over st [] apart low = no_subs st (λ x. made.OverOut) (λ x. BackLow)
  subs_over st (s ∷ ss) apart low =
      let ge : int_lt (pos 0) st.lower ≡ false = grind (arith, ints) in
      let one = sub_over size st s.0 ge in
      let b = move_from size st s.0 SubLow in
      more_subs st b (after_subs size b ss) (λ x. made.OverOut) (λ x. BackLow) s ss apart.0 one (subs_over b ss apart.1 (let e = one.lower_is in omega (arith, ints, e, low)))

  -- ---- a subtraction of which the first are granted and the others refused

  granted_part : (st : QueueState A) (granted over : List (ℕ × B)) → AreApart (names_of granted) → GrantsLow st granted over → AllSub st (after_subs size st granted) (λ x. made.ClaimOut) (λ x. TicketOut) granted
  granted_part st granted over apart g = elim g.stock [
    | inl none ↦ subst (λ l. AllSub st (after_subs size st l) (λ x. made.ClaimOut) (λ x. TicketOut) l) (sym none) (no_subs st (λ x. made.ClaimOut) (λ x. TicketOut))
    | inr fits ↦ subs_granted st granted apart fits
  ]

  over_part : (st b : QueueState A) (granted over : List (ℕ × B)) → AreApart (names_of over) → GrantsLow st granted over → AllSub st b (λ x. made.ClaimOut) (λ x. TicketOut) granted → AllSub b (after_subs size b over) (λ x. made.OverOut) (λ x. BackLow) over
  over_part st b granted over apart g first = elim g.empty [
    | inl none ↦ subst (λ l. AllSub b (after_subs size b l) (λ x. made.OverOut) (λ x. BackLow) l) (sym none) (no_subs b (λ x. made.OverOut) (λ x. BackLow))
    | inr low ↦ subs_over b over apart (let e = first.lower_is in omega (arith, ints, e, low))
  ]

  pub subs : (st : QueueState A) (granted over : List (ℕ × B)) → AreApart (names_of (granted ++ over)) → GrantsLow st granted over → AreSubtracted size st granted over
  subs st granted over apart g =
      let apart' = subst AreApart (names-append granted over) apart in
      let b = after_subs size st granted in
      let first = granted_part st granted over (apart_left (names_of granted) (names_of over) apart') g in
      let last = over_part st b granted over (apart_right (names_of granted) (names_of over) apart') g first in
      let c : after_subs size st (granted ++ over) ≡ after_subs size b over = ap (block size st) (at-append (λ x. SubLow) granted over) ∙ block-append size st (all_at (λ x. SubLow) granted) (all_at (λ x. SubLow) over) in
      let both = changes_then (all_at (λ x. TicketOut) granted) (all_at (λ x. BackLow) over)
      (λ n i j. apart_both (names_of granted) (names_of over) apart' n (subst (In n) (names-at {A = A} (λ (x : B). TicketOut) granted) i) (subst (In n) (names-at {A = A} (λ (x : B). BackLow) over) j)) first last in
      subst (λ z. Changes st z (marks_back (λ x. made.OverOut) over ++ marks_back (λ x. made.ClaimOut) granted) st.upper (st.lower -ℤ pos (length (granted ++ over))) st.draws_in st.draws_out (all_at (λ x. TicketOut) granted ++ all_at (λ x. BackLow) over)) (sym c)
      (counts_as first.upper_is (both_less st.lower b.lower (length granted) (length over) (length (granted ++ over)) first.lower_is (length-append granted over)) first.draws_in_is first.draws_out_is both)

  first_granted : (st : QueueState A) (l : ℕ) (ss : List (ℕ × B)) → st.lower ≡ pos l → GrantsLow st (take l ss) (drop l ss)
  first_granted st l ss is =
      let few : length (take l ss) ≡ min l (length ss) = length-take l ss in
      let rest : length (drop l ss) ≡ length ss - l = length-drop l ss in
      record {
        stock = elim (some_found l (length ss)) [
          | inl none ↦ inl (no_items (take l ss) (few ∙ none))
          | inr fits ↦ inr (subst (λ (z : ℤ × ℕ). pos z.1 ≤ℤ z.0) (λ i. (sym is i, sym few i)) fits)
        ];
        empty = elim (rest_empty l (length ss)) [
          | inl none ↦ inl (no_items (drop l ss) (rest ∙ none))
          | inr low ↦ inr (subst (λ (z : ℤ × ℕ). z.0 ≤ℤ pos z.1) (λ i. (sym is i, sym few i)) low)
        ];
      }

  pub first_subtracted : (st : QueueState A) (l : ℕ) (ss : List (ℕ × B)) → AreApart (names_of ss) → st.lower ≡ pos l → AreSubtracted size st (take l ss) (drop l ss)
  first_subtracted st l ss apart is = subs st (take l ss) (drop l ss) (subst (λ k. AreApart (names_of k)) (sym (take-append-drop l ss)) apart) (first_granted st l ss is)

  pub none_subtracted : (st : QueueState A) (ss : List (ℕ × B)) → AreApart (names_of ss) → st.lower ≤ℤ pos 0 → AreSubtracted size st [] ss
  none_subtracted st ss apart low = subs st [] ss apart (record { stock = inl refl; empty = inr low })

  -- ---- withdrawals

  pub backs_low : (st : QueueState A) (ss : List (ℕ × B)) → AreApart (names_of ss) → AreWithdrawnOut size st ss
  backs_low st [] apart = counts_as refl (no_more st.lower) refl refl (changes_none st)
  backs_low st (s ∷ ss) apart =
      let one = one_step st s.0 made.BackOut Idle st.upper (st.lower +ℤ pos 1) st.draws_in st.draws_out in
      let rest = all_at {A = A} (λ (x : B). Idle) ss in
      counts_as refl (one_more st.lower (st.lower +ℤ pos 1) (length ss) refl) refl refl
      (changes_then ((s.0, Idle) ∷ []) rest (first_apart s.0 Idle rest (names_of ss) (names-at {A = A} (λ (x : B). Idle) ss) apart.0) one (backs_low (move_from size st s.0 BackLow) ss apart.1))

  -- ---- tests

  more_tests_low : (st b : QueueState A) (s : ℕ × B) (ss : List (ℕ × B)) (one rest : List (Mark A)) (at : B → Phase A) → (In s.0 (names_of ss) → ⊥) → OneTest size st s.0 b one (at s.1) → AreTestedLow size b ss rest at
      → Changes st (tested_low size b ss) (rest ++ one) st.upper st.lower st.draws_in st.draws_out (all_at at (s ∷ ss))
  more_tests_low st b s ss one rest at out x y =
      counts_as x.upper_is x.lower_is x.draws_in_is x.draws_out_is (changes_then ((s.0, at s.1) ∷ []) (all_at at ss) (first_apart s.0 (at s.1) (all_at at ss) (names_of ss) (names-at at ss) out) x y)

  pub tests_stock : (st : QueueState A) (ss : List (ℕ × B)) → AreApart (names_of ss) → int_lt (pos 0) st.lower ≡ true → AreTestedLow size st ss [] (λ x. SubLow)
  tests_stock st [] apart lt = changes_none st
  tests_stock st (s ∷ ss) apart lt =
      let b = move_from size (with_phase st s.0 TestLow) s.0 TestLow in
      let one = test_stock size st s.0 lt in
      more_tests_low st b s ss [] [] (λ x. SubLow) apart.0 one (tests_stock b ss apart.1 (ap (λ u. int_lt (pos 0) u) one.lower_is ∙ lt))

  pub tests_empty : (st : QueueState A) (ss : List (ℕ × B)) → AreApart (names_of ss) → int_lt (pos 0) st.lower ≡ false → AreTestedLow size st ss (marks_back (λ x. made.NoItem) ss) (λ x. Idle)
  tests_empty st [] apart ge = changes_none st
  tests_empty st (s ∷ ss) apart ge =
      let b = move_from size (with_phase st s.0 TestLow) s.0 TestLow in
      let one = test_empty size st s.0 ge in
      more_tests_low st b s ss _ _ (λ x. Idle) apart.0 one (tests_empty b ss apart.1 (ap (λ u. int_lt (pos 0) u) one.lower_is ∙ ge))

-- ---- ends

pub ends_out : {A : Type 0} (size : ℕ) (st : QueueState A) (ss : List (ℕ × ℕ)) → AreApart (names_of ss) → AreEndedOut size st ss
ends_out size st [] apart = counts_as (no_less st.upper) refl refl refl (changes_none st)
ends_out {A} size st (s ∷ ss) apart =
    let one = one_step st s.0 made.EndOut Idle (st.upper -ℤ pos 1) st.lower st.draws_in st.draws_out in
    let rest = all_at {A = A} (λ (k : ℕ). Idle) ss in
    counts_as (one_less st.upper (st.upper -ℤ pos 1) (length ss) refl) refl refl refl
    (changes_then ((s.0, Idle) ∷ []) rest (first_apart s.0 Idle rest (names_of ss) (names-at {A = A} (λ (k : ℕ). Idle) ss) apart.0) one (ends_out size (move_from size st s.0 (EndDelete s.1)) ss apart.1))

-- ---- draws

-- a Got puts no item
got_puts_none : {A : Type 0} (m : Mark A) (x : A) (h : List (Mark A)) → m.kind ≡ made.Got x → (k : ℕ) → item_of h k ≡ item_of (m ∷ h) k
got_puts_none m x h is k = grind (arith, common_steps, item_of)

-- the items by ticket, in a past with the newest mark first
put_there : {A : Type 0} (h : List (Mark A)) (k : ℕ) → item_at (items_put (reverse h)) k ≡ item_of h k
put_there h k = item_same k (reverse h) ∙ ap (λ l. item_of l k) (reverse-reverse h)

put_before : {A : Type 0} (m : Mark A) (x : A) (h : List (Mark A)) → m.kind ≡ made.Got x → (k : ℕ) (zs : List (ℕ × A)) → ArePut (m ∷ h) k zs → ArePut h k zs
put_before m x h is k [] all = tt
put_before m x h is k (z ∷ zs) all = (put_there h k ∙ (got_puts_none m x h is k ∙ (sym (put_there (m ∷ h) k) ∙ all.0)), put_before m x h is (k + 1) zs all.1)

module _ {A B : Type 0} (size : ℕ) (some_cell : 0 < size) where
  pub draws_out : (st : QueueState A) (ss : List (ℕ × B)) → IsReached size st → AreApart (names_of ss) → Stand st (all_at (λ x. TicketOut) ss) → AreDrawnOut size st ss
  draws_out st [] R apart all = record { items = []; names = refl; put = tt; changes = counts_as refl refl refl (omega arith) (changes_none st) }
  draws_out st (s ∷ ss) R apart all =
      let k = st.draws_out in
      let it = draws_put size st s.0 (kept size st R some_cell) all.0 in
      let x = it.0 in
      let got : Mark A = record { seat = s.0; kind = made.Got x } in
      let b : QueueState A = record (record st { draws_out = k + 1 }) { phase = with_at st.phase s.0 (TurnOut k); past = got ∷ st.past } in
      let is : move_from size st s.0 TicketOut ≡ b = ap (λ o. after_step st s.0 (Some (ticket_out k o))) it.1 in
      let drawing = all_at {A = A} (λ (y : B). TicketOut) ss in
      let reached : IsReached size b = subst (IsReached size) is (moves size st R s.0 TicketOut all.0) in
      let still : Stand b drawing = stand_else st b s.0 drawing (λ n ne. at_else st.phase s.0 n (TurnOut k) ne) (λ i. apart.0 (subst (In s.0) (names-at {A = A} (λ (y : B). TicketOut) ss) i)) all.1 in
      let rest = draws_out b ss reached apart.1 still in
      let one = one_step st s.0 (made.Got x) (TurnOut k) st.upper st.lower st.draws_in (k + 1) in
      let turns = turns_out_from {A = A} (k + 1) ss in
      record {
        items = (s.0, x) ∷ rest.items;
        names = ap (λ l. s.0 ∷ l) rest.names;
        put = (put_there st.past k ∙ it.1, put_before got x st.past refl (k + 1) rest.items rest.put);
        changes = subst (λ c. Changes st (block size c drawing) (marks_back (λ x. made.Got x) ((s.0, x) ∷ rest.items)) st.upper st.lower st.draws_in (k + length (s ∷ ss)) (turns_out_from k (s ∷ ss))) (sym is)
            (counts_as refl refl refl (omega arith) (changes_then ((s.0, TurnOut k) ∷ []) turns (first_apart s.0 (TurnOut k) turns (names_of ss) (names-turns_out A (k + 1) ss) apart.0) one rest.changes));
      }
