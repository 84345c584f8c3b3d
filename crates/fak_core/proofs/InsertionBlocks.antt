-- Several insertions at once: one load tests for them, one add claims, draws or ends for them, one subtraction
-- withdraws them.
use Rattle.fak_model.specs.declared.queue.Kind.TheVariants as made
use Rattle.fak_model.specs.Seats.{In}
use Rattle.std.proofs.lemmas.List.{length-append, length-take, length-drop, take-append-drop}
use Rattle.std.specs.Prelude.{take, drop}
use Rattle.fak_core.proofs.Common.{Phase, Idle, TestUp, AddUp, BackUp, TicketIn, TurnIn, EndInsert, QueueState, QueueMove, Kind, Mark, ◌≡◌, ◌⊎◌, ℕ, ◌+◌, ◌-◌, true, false, List, [], ◌∷◌, ◌++◌, length, refl, sym, ap, ◌∙◌, subst, inl, inr, arith, ℤ, pos, ◌+ℤ◌, ◌-ℤ◌, ◌≤ℤ◌, int_lt, ints, min, moved, move_from, with_phase, common_steps}
use Rattle.fak_core.proofs.QueueSteps.{by_test}
use Rattle.fak_core.proofs.QueueBlocks.{names-append, names-at, names-turns, apart_left, apart_right, apart_both, first_apart, block-append, at-append, no_more, one_more, both_more, no_less, one_less, changes_then, changes_none, counts_as, one_step, one_test, no_items, not_both}
use Rattle.fak_core.specs.QueueBlocks.{names_of, AreApart, block, all_at, turns_from, marks_back, Changes, tested, AreTested, Grants, after_adds, AreAdded, AreLate, AreWithdrawn, AreDrawn, AreEnded}

-- ---- adds to the upper count

-- as many are granted as there is room for
some_fit : (size u d : ℕ) → (min (size - u) d ≡ 0) ⊎ ((pos u +ℤ pos (min (size - u) d)) ≤ℤ pos size)
some_fit size u d = grind (arith, common_steps, ints, min)

rest_full : (size u d : ℕ) → (d - (size - u) ≡ 0) ⊎ (pos size ≤ℤ (pos u +ℤ pos (min (size - u) d)))
rest_full size u d = grind (arith, common_steps, ints, min)

module _ {A : Type 0} (size : ℕ) where
  -- the change by one add
  abbrev OneAdd : QueueState A → ℕ → QueueState A → Kind A → Phase A → Type 0
  OneAdd st n c κ p = Changes st c ((record { seat = n; kind = κ }) ∷ []) (st.upper +ℤ pos 1) st.lower st.draws_in st.draws_out ((n, p) ∷ [])

  add_granted : (st : QueueState A) (n : ℕ) (x : A) → st.shut ≡ false → int_lt st.upper (pos size) ≡ true → OneAdd st n (move_from size st n (AddUp x)) made.ClaimIn (TicketIn x)
  add_granted st n x opn lt = by_test (λ (m : QueueMove A). OneAdd st n (moved st n m) made.ClaimIn (TicketIn x)) st.shut _ _ (λ b. not_both st.shut b opn)
      (λ _. by_test (λ (m : QueueMove A). OneAdd st n (moved st n m) made.ClaimIn (TicketIn x)) (int_lt st.upper (pos size)) _ _ (λ _. one_step st n made.ClaimIn (TicketIn x) (st.upper +ℤ pos 1) st.lower st.draws_in st.draws_out) (λ b. not_both (int_lt st.upper (pos size)) lt b))

  add_over : (st : QueueState A) (n : ℕ) (x : A) → st.shut ≡ false → int_lt st.upper (pos size) ≡ false → OneAdd st n (move_from size st n (AddUp x)) made.OverIn (BackUp x)
  add_over st n x opn ge = by_test (λ (m : QueueMove A). OneAdd st n (moved st n m) made.OverIn (BackUp x)) st.shut _ _ (λ b. not_both st.shut b opn)
      (λ _. by_test (λ (m : QueueMove A). OneAdd st n (moved st n m) made.OverIn (BackUp x)) (int_lt st.upper (pos size)) _ _ (λ b. not_both (int_lt st.upper (pos size)) b ge) (λ _. one_step st n made.OverIn (BackUp x) (st.upper +ℤ pos 1) st.lower st.draws_in st.draws_out))

  add_late : (st : QueueState A) (n : ℕ) (x : A) → st.shut ≡ true → OneAdd st n (move_from size st n (AddUp x)) made.LateIn (BackUp x)
  add_late st n x shut = by_test (λ (m : QueueMove A). OneAdd st n (moved st n m) made.LateIn (BackUp x)) st.shut _ _ (λ _. one_step st n made.LateIn (BackUp x) (st.upper +ℤ pos 1) st.lower st.draws_in st.draws_out) (λ b. not_both st.shut shut b)

  -- the change by all adds
  abbrev AllAdd : QueueState A → QueueState A → (A → Kind A) → (A → Phase A) → List (ℕ × A) → Type 0
  AllAdd st c f p ss = Changes st c (marks_back f ss) (st.upper +ℤ pos (length ss)) st.lower st.draws_in st.draws_out (all_at p ss)

  no_adds : (st : QueueState A) (f : A → Kind A) (p : A → Phase A) → AllAdd st st f p []
  no_adds st f p = counts_as (no_more st.upper) refl refl refl (changes_none st)

  more_adds : (st b c : QueueState A) (f : A → Kind A) (p : A → Phase A) (s : ℕ × A) (ss : List (ℕ × A)) → (In s.0 (names_of ss) → ⊥) → OneAdd st s.0 b (f s.1) (p s.1) → AllAdd b c f p ss → AllAdd st c f p (s ∷ ss)
  more_adds st b c f p s ss out one rest =
      counts_as (one_more st.upper b.upper (length ss) one.upper_is) one.lower_is one.draws_in_is one.draws_out_is
      (changes_then ((s.0, p s.1) ∷ []) (all_at p ss) (first_apart s.0 (p s.1) (all_at p ss) (names_of ss) (names-at p ss) out) one rest)

  adds_granted : (st : QueueState A) (ss : List (ℕ × A)) → AreApart (names_of ss) → st.shut ≡ false → (st.upper +ℤ pos (length ss)) ≤ℤ pos size → AllAdd st (after_adds size st ss) (λ x. made.ClaimIn) (λ x. TicketIn x) ss
  adds_granted st [] apart opn fits = no_adds st (λ x. made.ClaimIn) (λ x. TicketIn x)
  adds_granted st (s ∷ ss) apart opn fits =
      let lt : int_lt st.upper (pos size) ≡ true = grind (arith, ints) in
      let one = add_granted st s.0 s.1 opn lt in
      let b = move_from size st s.0 (AddUp s.1) in
      more_adds st b (after_adds size b ss) (λ x. made.ClaimIn) (λ x. TicketIn x) s ss apart.0 one (adds_granted b ss apart.1 (one.shut_is ∙ opn) (let e = one.upper_is in omega (arith, ints, e, fits)))

  adds_over : (st : QueueState A) (ss : List (ℕ × A)) → AreApart (names_of ss) → st.shut ≡ false → pos size ≤ℤ st.upper → AllAdd st (after_adds size st ss) (λ x. made.OverIn) (λ x. BackUp x) ss
  adds_over st [] apart opn full = no_adds st (λ x. made.OverIn) (λ x. BackUp x)
  adds_over st (s ∷ ss) apart opn full =
      let ge : int_lt st.upper (pos size) ≡ false = grind (arith, ints) in
      let one = add_over st s.0 s.1 opn ge in
      let b = move_from size st s.0 (AddUp s.1) in
      more_adds st b (after_adds size b ss) (λ x. made.OverIn) (λ x. BackUp x) s ss apart.0 one (adds_over b ss apart.1 (one.shut_is ∙ opn) (let e = one.upper_is in omega (arith, ints, e, full)))

  pub adds_late : (st : QueueState A) (ss : List (ℕ × A)) → AreApart (names_of ss) → st.shut ≡ true → AreLate size st ss
  adds_late st [] apart shut = no_adds st (λ x. made.LateIn) (λ x. BackUp x)
  adds_late st (s ∷ ss) apart shut =
      let one = add_late st s.0 s.1 shut in
      let b = move_from size st s.0 (AddUp s.1) in
      more_adds st b (after_adds size b ss) (λ x. made.LateIn) (λ x. BackUp x) s ss apart.0 one (adds_late b ss apart.1 (one.shut_is ∙ shut))

  -- ---- an add of which the first are granted and the others refused

  granted_part : (st : QueueState A) (granted over : List (ℕ × A)) → AreApart (names_of granted) → Grants size st granted over → AllAdd st (after_adds size st granted) (λ x. made.ClaimIn) (λ x. TicketIn x) granted
  granted_part st granted over apart g = elim g.room [
    | inl none ↦ subst (λ l. AllAdd st (after_adds size st l) (λ x. made.ClaimIn) (λ x. TicketIn x) l) (sym none) (no_adds st (λ x. made.ClaimIn) (λ x. TicketIn x))
    | inr fits ↦ adds_granted st granted apart g.opened fits
  ]

  over_part : (st b : QueueState A) (granted over : List (ℕ × A)) → AreApart (names_of over) → Grants size st granted over → AllAdd st b (λ x. made.ClaimIn) (λ x. TicketIn x) granted → AllAdd b (after_adds size b over) (λ x. made.OverIn) (λ x. BackUp x) over
  over_part st b granted over apart g first = elim g.full [
    | inl none ↦ subst (λ l. AllAdd b (after_adds size b l) (λ x. made.OverIn) (λ x. BackUp x) l) (sym none) (no_adds b (λ x. made.OverIn) (λ x. BackUp x))
    | inr full ↦ adds_over b over apart (first.shut_is ∙ g.opened) (subst (λ z. pos size ≤ℤ z) (sym first.upper_is) full)
  ]

  pub adds : (st : QueueState A) (granted over : List (ℕ × A)) → AreApart (names_of (granted ++ over)) → Grants size st granted over → AreAdded size st granted over
  adds st granted over apart g =
      let apart' = subst AreApart (names-append granted over) apart in
      let b = after_adds size st granted in
      let first = granted_part st granted over (apart_left (names_of granted) (names_of over) apart') g in
      let last = over_part st b granted over (apart_right (names_of granted) (names_of over) apart') g first in
      let c : after_adds size st (granted ++ over) ≡ after_adds size b over = ap (block size st) (at-append (λ x. AddUp x) granted over) ∙ block-append size st (all_at (λ x. AddUp x) granted) (all_at (λ x. AddUp x) over) in
      let both = changes_then (all_at (λ x. TicketIn x) granted) (all_at (λ x. BackUp x) over)
      (λ n i j. apart_both (names_of granted) (names_of over) apart' n (subst (In n) (names-at (λ x. TicketIn x) granted) i) (subst (In n) (names-at (λ x. BackUp x) over) j)) first last in
      subst (λ z. Changes st z (marks_back (λ x. made.OverIn) over ++ marks_back (λ x. made.ClaimIn) granted) (st.upper +ℤ pos (length (granted ++ over))) st.lower st.draws_in st.draws_out (all_at (λ x. TicketIn x) granted ++ all_at (λ x. BackUp x) over)) (sym c)
      (counts_as (both_more st.upper b.upper (length granted) (length over) (length (granted ++ over)) first.upper_is (length-append granted over)) first.lower_is first.draws_in_is first.draws_out_is both)

  first_granted : (st : QueueState A) (u : ℕ) (ss : List (ℕ × A)) → st.shut ≡ false → st.upper ≡ pos u → Grants size st (take (size - u) ss) (drop (size - u) ss)
  first_granted st u ss opn is =
      let few : length (take (size - u) ss) ≡ min (size - u) (length ss) = length-take (size - u) ss in
      let rest : length (drop (size - u) ss) ≡ length ss - (size - u) = length-drop (size - u) ss in
      record {
        opened = opn;
        room = elim (some_fit size u (length ss)) [
          | inl none ↦ inl (no_items (take (size - u) ss) (few ∙ none))
          | inr fits ↦ inr (subst (λ (z : ℤ × ℕ). (z.0 +ℤ pos z.1) ≤ℤ pos size) (λ i. (sym is i, sym few i)) fits)
        ];
        full = elim (rest_full size u (length ss)) [
          | inl none ↦ inl (no_items (drop (size - u) ss) (rest ∙ none))
          | inr full ↦ inr (subst (λ (z : ℤ × ℕ). pos size ≤ℤ (z.0 +ℤ pos z.1)) (λ i. (sym is i, sym few i)) full)
        ];
      }

  pub first_added : (st : QueueState A) (u : ℕ) (ss : List (ℕ × A)) → AreApart (names_of ss) → st.shut ≡ false → st.upper ≡ pos u → AreAdded size st (take (size - u) ss) (drop (size - u) ss)
  first_added st u ss apart opn is = adds st (take (size - u) ss) (drop (size - u) ss) (subst (λ l. AreApart (names_of l)) (sym (take-append-drop (size - u) ss)) apart) (first_granted st u ss opn is)

  -- ---- draws, ends and withdrawals

  pub draws : (st : QueueState A) (ss : List (ℕ × A)) → AreApart (names_of ss) → AreDrawn size st ss
  draws st [] apart = counts_as refl refl (omega arith) refl (changes_none st)
  draws st (s ∷ ss) apart =
      let k = st.draws_in in
      let one = one_step st s.0 (made.Put s.1) (TurnIn k s.1) st.upper st.lower (k + 1) st.draws_out in
      counts_as refl refl (omega arith) refl
      (changes_then ((s.0, TurnIn k s.1) ∷ []) (turns_from (k + 1) ss) (first_apart s.0 (TurnIn k s.1) (turns_from (k + 1) ss) (names_of ss) (names-turns (k + 1) ss) apart.0) one (draws (move_from size st s.0 (TicketIn s.1)) ss apart.1))

  pub ends : (st : QueueState A) (ss : List (ℕ × ℕ)) → AreApart (names_of ss) → AreEnded size st ss
  ends st [] apart = counts_as refl (no_more st.lower) refl refl (changes_none st)
  ends st (s ∷ ss) apart =
      let one = one_step st s.0 made.EndIn Idle st.upper (st.lower +ℤ pos 1) st.draws_in st.draws_out in
      let rest = all_at {A = A} (λ (k : ℕ). Idle) ss in
      counts_as refl (one_more st.lower (st.lower +ℤ pos 1) (length ss) refl) refl refl
      (changes_then ((s.0, Idle) ∷ []) rest (first_apart s.0 Idle rest (names_of ss) (names-at {A = A} (λ (k : ℕ). Idle) ss) apart.0) one (ends (move_from size st s.0 (EndInsert s.1)) ss apart.1))

  pub backs : (st : QueueState A) (ss : List (ℕ × A)) → AreApart (names_of ss) → AreWithdrawn size st ss
  backs st [] apart = counts_as (no_less st.upper) refl refl refl (changes_none st)
  backs st (s ∷ ss) apart =
      let one = one_step st s.0 made.BackIn Idle (st.upper -ℤ pos 1) st.lower st.draws_in st.draws_out in
      let rest = all_at {A = A} (λ (x : A). Idle) ss in
      counts_as (one_less st.upper (st.upper -ℤ pos 1) (length ss) refl) refl refl refl
      (changes_then ((s.0, Idle) ∷ []) rest (first_apart s.0 Idle rest (names_of ss) (names-at {A = A} (λ (x : A). Idle) ss) apart.0) one (backs (move_from size st s.0 (BackUp s.1)) ss apart.1))

  -- ---- tests

  -- the change by one test
  abbrev OneTest : QueueState A → ℕ → QueueState A → List (Mark A) → Phase A → Type 0
  OneTest st n c marks p = Changes st c marks st.upper st.lower st.draws_in st.draws_out ((n, p) ∷ [])

  test_room : (st : QueueState A) (n : ℕ) (x : A) → st.shut ≡ false → int_lt st.upper (pos size) ≡ true → OneTest st n (move_from size (with_phase st n (TestUp x)) n (TestUp x)) [] (AddUp x)
  test_room st n x opn lt = let b = with_phase st n (TestUp x) in
      by_test (λ (m : QueueMove A). OneTest st n (moved b n m) [] (AddUp x)) st.shut _ _ (λ b. not_both st.shut b opn)
      (λ _. by_test (λ (m : QueueMove A). OneTest st n (moved b n m) [] (AddUp x)) (int_lt st.upper (pos size)) _ _ (λ _. one_test st n [] (TestUp x) (AddUp x)) (λ b. not_both (int_lt st.upper (pos size)) lt b))

  test_full : (st : QueueState A) (n : ℕ) (x : A) → st.shut ≡ false → int_lt st.upper (pos size) ≡ false → OneTest st n (move_from size (with_phase st n (TestUp x)) n (TestUp x)) ((record { seat = n; kind = made.NoRoom }) ∷ []) Idle
  test_full st n x opn ge = let b = with_phase st n (TestUp x) in
      by_test (λ (m : QueueMove A). OneTest st n (moved b n m) ((record { seat = n; kind = made.NoRoom }) ∷ []) Idle) st.shut _ _ (λ b. not_both st.shut b opn)
      (λ _. by_test (λ (m : QueueMove A). OneTest st n (moved b n m) ((record { seat = n; kind = made.NoRoom }) ∷ []) Idle) (int_lt st.upper (pos size)) _ _
      (λ b. not_both (int_lt st.upper (pos size)) b ge) (λ _. one_test st n ((record { seat = n; kind = made.NoRoom }) ∷ []) (TestUp x) Idle))

  test_shut : (st : QueueState A) (n : ℕ) (x : A) → st.shut ≡ true → OneTest st n (move_from size (with_phase st n (TestUp x)) n (TestUp x)) ((record { seat = n; kind = made.Closed }) ∷ []) Idle
  test_shut st n x shut = let b = with_phase st n (TestUp x) in
      by_test (λ (m : QueueMove A). OneTest st n (moved b n m) ((record { seat = n; kind = made.Closed }) ∷ []) Idle) st.shut _ _
      (λ _. one_test st n ((record { seat = n; kind = made.Closed }) ∷ []) (TestUp x) Idle) (λ b. not_both st.shut shut b)

  more_tests : (st b : QueueState A) (s : ℕ × A) (ss : List (ℕ × A)) (one rest : List (Mark A)) (at : A → Phase A) → (In s.0 (names_of ss) → ⊥) → OneTest st s.0 b one (at s.1) → AreTested size b ss rest at
      → Changes st (tested size b ss) (rest ++ one) st.upper st.lower st.draws_in st.draws_out (all_at at (s ∷ ss))
  more_tests st b s ss one rest at out x y =
      counts_as x.upper_is x.lower_is x.draws_in_is x.draws_out_is (changes_then ((s.0, at s.1) ∷ []) (all_at at ss) (first_apart s.0 (at s.1) (all_at at ss) (names_of ss) (names-at at ss) out) x y)

  pub tests_room : (st : QueueState A) (ss : List (ℕ × A)) → AreApart (names_of ss) → st.shut ≡ false → int_lt st.upper (pos size) ≡ true → AreTested size st ss [] (λ x. AddUp x)
  tests_room st [] apart opn lt = changes_none st
  tests_room st (s ∷ ss) apart opn lt =
      let b = move_from size (with_phase st s.0 (TestUp s.1)) s.0 (TestUp s.1) in
      let one = test_room st s.0 s.1 opn lt in
      more_tests st b s ss [] [] (λ x. AddUp x) apart.0 one (tests_room b ss apart.1 (one.shut_is ∙ opn) (ap (λ u. int_lt u (pos size)) one.upper_is ∙ lt))

  pub tests_full : (st : QueueState A) (ss : List (ℕ × A)) → AreApart (names_of ss) → st.shut ≡ false → int_lt st.upper (pos size) ≡ false → AreTested size st ss (marks_back (λ x. made.NoRoom) ss) (λ x. Idle)
  tests_full st [] apart opn ge = changes_none st
  tests_full st (s ∷ ss) apart opn ge =
      let b = move_from size (with_phase st s.0 (TestUp s.1)) s.0 (TestUp s.1) in
      let one = test_full st s.0 s.1 opn ge in
      more_tests st b s ss _ _ (λ x. Idle) apart.0 one (tests_full b ss apart.1 (one.shut_is ∙ opn) (ap (λ u. int_lt u (pos size)) one.upper_is ∙ ge))

  pub tests_shut : (st : QueueState A) (ss : List (ℕ × A)) → AreApart (names_of ss) → st.shut ≡ true → AreTested size st ss (marks_back (λ x. made.Closed) ss) (λ x. Idle)
  tests_shut st [] apart shut = changes_none st
  tests_shut st (s ∷ ss) apart shut =
      let b = move_from size (with_phase st s.0 (TestUp s.1)) s.0 (TestUp s.1) in
      let one = test_shut st s.0 s.1 shut in
      more_tests st b s ss _ _ (λ x. Idle) apart.0 one (tests_shut b ss apart.1 (one.shut_is ∙ shut))
