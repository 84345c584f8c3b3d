-- A block of steps is a schedule, and its change is the sum of the changes of its steps.
use Rattle.fak_model.specs.Seats.{In}
use Rattle.fak_model.proofs.Seats.{in_left, in_right}
use Rattle.std.proofs.lemmas.List.{append_assoc}
use Rattle.fak_core.proofs.Common.{Phase, Idle, TestUp, TestLow, QueueState, QueueMove, Kind, Mark, ◌≡◌, ◌≢◌, ℕ, ◌+◌, suc, Bool, true, false, List, [], ◌∷◌, ◌++◌, length, Option, Some, None, refl, sym, ap, ◌∙◌, subst, inl, inr, arith, ℤ, pos, ◌+ℤ◌, ◌-ℤ◌, ints, with_at, move_from, IsReached}
use Rattle.fak_core.proofs.QueueTurns.{at_here, at_else}
use Rattle.fak_core.proofs.QueueReached.{goes_on}
use Rattle.fak_core.specs.QueueSchedule.{QueueEvent, after_step, begun, happens, run, stepped}
use Rattle.fak_core.specs.QueueMoves.{next_move, with_phase}
use Rattle.fak_core.specs.QueueBlocks.{Posts, names_of, AreApart, Stand, block, tested, tested_low, next_steps, insertion_tests, deletion_tests, LeadTo, all_at, turns_from, turns_out_from, Changes}

-- ---- names

pub names-append : {B : Type 0} (p q : List (ℕ × B)) → names_of (p ++ q) ≡ names_of p ++ names_of q
names-append [] q = refl
names-append (s ∷ p) q = ap (λ l. s.0 ∷ l) (names-append p q)

pub names-at : {A B : Type 0} (f : B → Phase A) (ss : List (ℕ × B)) → names_of (all_at f ss) ≡ names_of ss
names-at f [] = refl
names-at f (s ∷ ss) = ap (λ l. s.0 ∷ l) (names-at f ss)

pub names-turns : {A : Type 0} (k : ℕ) (ss : List (ℕ × A)) → names_of (turns_from k ss) ≡ names_of ss
names-turns k [] = refl
names-turns k (s ∷ ss) = ap (λ l. s.0 ∷ l) (names-turns (k + 1) ss)

pub names-turns_out : (A : Type 0) {B : Type 0} (k : ℕ) (ss : List (ℕ × B)) → names_of (turns_out_from {A = A} k ss) ≡ names_of ss
names-turns_out A k [] = refl
names-turns_out A k (s ∷ ss) = ap (λ l. s.0 ∷ l) (names-turns_out A (k + 1) ss)

pub apart_left : (a b : List ℕ) → AreApart (a ++ b) → AreApart a
apart_left [] b h = tt
apart_left (n ∷ a) b h = ((λ i. h.0 (in_left n a b i)), apart_left a b h.1)

pub apart_right : (a b : List ℕ) → AreApart (a ++ b) → AreApart b
apart_right [] b h = h
apart_right (n ∷ a) b h = apart_right a b h.1

pub apart_both : (a b : List ℕ) → AreApart (a ++ b) → (n : ℕ) → In n a → In n b → ⊥
apart_both [] b h n i j = i
apart_both (m ∷ a) b h n (inl e) j = h.0 (in_right m a b (subst (λ (k : ℕ). In k b) e j))
apart_both (m ∷ a) b h n (inr i) j = apart_both a b h.1 n i j

-- the first name is not among the others
pub first_apart : {A : Type 0} (n : ℕ) (p : Phase A) (q : Posts A) (names : List ℕ) → names_of q ≡ names → (In n names → ⊥) → (k : ℕ) → In k (names_of ((n, p) ∷ [])) → In k (names_of q) → ⊥
first_apart n p q names same out k (inl e) j = out (subst (λ (z : ℕ). In z names) e (subst (In k) same j))
first_apart n p q names same out k (inr z) j = z

-- ---- a block is a schedule

stays_after : {A : Type 0} (st : QueueState A) (s t : ℕ) (o : Option (QueueMove A)) → t ≢ s → (after_step st s o).phase t ≡ st.phase t
stays_after st s t None ne = refl
stays_after st s t (Some m) ne = at_else st.phase s t m.phase ne

pub stand_on : {A : Type 0} (b c : QueueState A) (p : Posts A) → ((n : ℕ) → In n (names_of p) → c.phase n ≡ b.phase n) → Stand b p → Stand c p
stand_on b c [] same all = tt
stand_on b c (s ∷ p) same all = (same s.0 (inl refl) ∙ all.0, stand_on b c p (λ n i. same n (inr i)) all.1)

-- in a state in which one seat has moved, the others are in their phases still
pub stand_else : {A : Type 0} (b c : QueueState A) (n : ℕ) (p : Posts A) → ((k : ℕ) → k ≢ n → c.phase k ≡ b.phase k) → (In n (names_of p) → ⊥) → Stand b p → Stand c p
stand_else b c n p same out all = stand_on b c p (λ k i. same k (λ e. out (subst (λ (z : ℕ). In z (names_of p)) e i))) all

pub reached_run : {A : Type 0} (size : ℕ) (st : QueueState A) (events : List (QueueEvent A)) → IsReached size st → IsReached size (run size events st)
reached_run size st [] R = R
reached_run size st (e ∷ es) R = reached_run size (happens size st e) es (goes_on size st R e)

leads_on : {A : Type 0} (size : ℕ) (st : QueueState A) (events : List (QueueEvent A)) (after : QueueState A) → run size events st ≡ after → LeadTo size st events after
leads_on size st events after is = record { leads = is; reached = λ R. subst (IsReached size) is (reached_run size st events R) }

module _ {A : Type 0} (size : ℕ) where
  runs_block : (st : QueueState A) (ss : Posts A) → AreApart (names_of ss) → Stand st ss → run size (next_steps (names_of ss)) st ≡ block size st ss
  runs_block st [] apart all = refl
  runs_block st (s ∷ ss) apart all =
      let c = move_from size st s.0 s.1 in
      let still : Stand c ss = stand_else st c s.0 ss (λ k ne. stays_after st s.0 k (next_move size st s.1) ne) apart.0 all.1 in
      ap (λ p. run size (next_steps (names_of ss)) (move_from size st s.0 p)) all.0 ∙ runs_block c ss apart.1 still

  pub block_leads : (st : QueueState A) (ss : Posts A) → AreApart (names_of ss) → Stand st ss → LeadTo size st (next_steps (names_of ss)) (block size st ss)
  block_leads st ss apart all = leads_on size st (next_steps (names_of ss)) (block size st ss) (runs_block st ss apart all)

  pub reached_block : (st : QueueState A) (ss : Posts A) → IsReached size st → AreApart (names_of ss) → Stand st ss → IsReached size (block size st ss)
  reached_block st ss R apart all = (block_leads st ss apart all).reached R

  -- an idle seat begins a call in this phase and takes its first step
  begins_and_steps : (st : QueueState A) (n : ℕ) (p : Phase A) → st.phase n ≡ Idle → stepped size (begun st n p (st.phase n)) n ≡ move_from size (with_phase st n p) n p
  begins_and_steps st n p idle = ap (λ q. stepped size (begun st n p q) n) idle ∙ ap (λ q. move_from size (with_phase st n p) n q) (at_here st.phase n p)

  -- the others stay idle
  idle_still : {B : Type 0} (st : QueueState A) (n : ℕ) (p : Phase A) (ss : List (ℕ × B)) → (In n (names_of ss) → ⊥) → Stand st (all_at (λ x. Idle) ss) → Stand (move_from size (with_phase st n p) n p) (all_at (λ x. Idle) ss)
  idle_still {B} st n p ss out all =
      let b = with_phase st n p in
      stand_else st (move_from size b n p) n (all_at (λ (x : B). Idle) ss) (λ k ne. stays_after b n k (next_move size b p) ne ∙ at_else st.phase n k p ne)
      (λ i. out (subst (In n) (names-at {A = A} (λ (x : B). Idle) ss) i)) all

  runs_tests : (st : QueueState A) (ss : List (ℕ × A)) → AreApart (names_of ss) → Stand st (all_at (λ x. Idle) ss) → run size (insertion_tests ss) st ≡ tested size st ss
  runs_tests st [] apart all = refl
  runs_tests st (s ∷ ss) apart all =
      let p = TestUp s.1 in
      ap (run size (insertion_tests ss)) (begins_and_steps st s.0 p all.0) ∙ runs_tests (move_from size (with_phase st s.0 p) s.0 p) ss apart.1 (idle_still st s.0 p ss apart.0 all.1)

  pub tests_lead : (st : QueueState A) (ss : List (ℕ × A)) → AreApart (names_of ss) → Stand st (all_at (λ x. Idle) ss) → LeadTo size st (insertion_tests ss) (tested size st ss)
  tests_lead st ss apart all = leads_on size st (insertion_tests ss) (tested size st ss) (runs_tests st ss apart all)

  pub reached_tests : (st : QueueState A) (ss : List (ℕ × A)) → IsReached size st → AreApart (names_of ss) → Stand st (all_at (λ x. Idle) ss) → IsReached size (tested size st ss)
  reached_tests st ss R apart all = (tests_lead st ss apart all).reached R

  runs_tests_low : {B : Type 0} (st : QueueState A) (ss : List (ℕ × B)) → AreApart (names_of ss) → Stand st (all_at (λ x. Idle) ss) → run size (deletion_tests (names_of ss)) st ≡ tested_low size st ss
  runs_tests_low st [] apart all = refl
  runs_tests_low st (s ∷ ss) apart all =
      ap (run size (deletion_tests (names_of ss))) (begins_and_steps st s.0 TestLow all.0) ∙ runs_tests_low (move_from size (with_phase st s.0 TestLow) s.0 TestLow) ss apart.1 (idle_still st s.0 TestLow ss apart.0 all.1)

  pub tests_low_lead : {B : Type 0} (st : QueueState A) (ss : List (ℕ × B)) → AreApart (names_of ss) → Stand st (all_at (λ x. Idle) ss) → LeadTo size st (deletion_tests (names_of ss)) (tested_low size st ss)
  tests_low_lead st ss apart all = leads_on size st (deletion_tests (names_of ss)) (tested_low size st ss) (runs_tests_low st ss apart all)

  pub reached_tests_low : {B : Type 0} (st : QueueState A) (ss : List (ℕ × B)) → IsReached size st → AreApart (names_of ss) → Stand st (all_at (λ x. Idle) ss) → IsReached size (tested_low size st ss)
  reached_tests_low st ss R apart all = (tests_low_lead st ss apart all).reached R

-- ---- lists of seats

pub block-append : {A : Type 0} (size : ℕ) (st : QueueState A) (p q : Posts A) → block size st (p ++ q) ≡ block size (block size st p) q
block-append size st [] q = refl
block-append size st (s ∷ p) q = block-append size (move_from size st s.0 s.1) p q

pub at-append : {A B : Type 0} (f : B → Phase A) (a b : List (ℕ × B)) → all_at f (a ++ b) ≡ all_at f a ++ all_at f b
at-append f [] b = refl
at-append f (s ∷ a) b = ap (λ l. (s.0, f s.1) ∷ l) (at-append f a b)

-- ---- counts

pub no_more : (u : ℤ) → u ≡ u +ℤ pos 0
no_more u = omega (arith, ints)

pub one_more : (u v : ℤ) (k : ℕ) → v ≡ u +ℤ pos 1 → v +ℤ pos k ≡ u +ℤ pos (suc k)
one_more u v k e = omega (arith, ints, e)

pub both_more : (u v : ℤ) (a b n : ℕ) → v ≡ u +ℤ pos a → n ≡ a + b → v +ℤ pos b ≡ u +ℤ pos n
both_more u v a b n e f = omega (arith, ints, e, f)

pub no_less : (u : ℤ) → u ≡ u -ℤ pos 0
no_less u = omega (arith, ints)

pub one_less : (u v : ℤ) (k : ℕ) → v ≡ u -ℤ pos 1 → v -ℤ pos k ≡ u -ℤ pos (suc k)
one_less u v k e = omega (arith, ints, e)

pub both_less : (u v : ℤ) (a b n : ℕ) → v ≡ u -ℤ pos a → n ≡ a + b → v -ℤ pos b ≡ u -ℤ pos n
both_less u v a b n e f = omega (arith, ints, e, f)

-- ---- changes, one after another

pub stand_both : {A : Type 0} (c : QueueState A) (p q : Posts A) → Stand c p → Stand c q → Stand c (p ++ q)
stand_both c [] q a b = b
stand_both c (s ∷ p) q a b = (a.0, stand_both c p q a.1 b)

pub changes_then : {A : Type 0} {st b c : QueueState A} {m m' : List (Mark A)} {u l u' l' : ℤ} {i d i' d' : ℕ} (p q : Posts A) → ((n : ℕ) → In n (names_of p) → In n (names_of q) → ⊥)
    → Changes st b m u l i d p → Changes b c m' u' l' i' d' q → Changes st c (m' ++ m) u' l' i' d' (p ++ q)
changes_then {st = st} {b = b} {c = c} {m = m} {m' = m'} p q apart x y = record {
  upper_is = y.upper_is;
  lower_is = y.lower_is;
  draws_in_is = y.draws_in_is;
  draws_out_is = y.draws_out_is;
  turn_is = y.turn_is ∙ x.turn_is;
  cell_is = y.cell_is ∙ x.cell_is;
  shut_is = y.shut_is ∙ x.shut_is;
  past_is = y.past_is ∙ (ap (λ h. m' ++ h) x.past_is ∙ sym (append_assoc m' m st.past));
  stand = stand_both c p q (stand_on b c p (λ n i. y.others n (apart n i)) x.stand) y.stand;
  others = λ n out.
      let both = names-append p q in
      y.others n (λ i. out (subst (In n) (sym both) (in_right n (names_of p) (names_of q) i)))
      ∙ x.others n (λ i. out (subst (In n) (sym both) (in_left n (names_of p) (names_of q) i)));
}

pub changes_none : {A : Type 0} (st : QueueState A) → Changes st st [] st.upper st.lower st.draws_in st.draws_out []
changes_none st = record { upper_is = refl; lower_is = refl; draws_in_is = refl; draws_out_is = refl; turn_is = refl; cell_is = refl; shut_is = refl; past_is = refl; stand = tt; others = λ n out. refl }

-- the same change, with equal numbers in place of these
abbrev pub counts_as : {A : Type 0} {st c : QueueState A} {m : List (Mark A)} {u l u' l' : ℤ} {i d i' d' : ℕ} {p : Posts A} → u ≡ u' → l ≡ l' → i ≡ i' → d ≡ d' → Changes st c m u l i d p → Changes st c m u' l' i' d' p
counts_as {st = st} {c = c} {m = m} {p = p} a b e f x = record {
  upper_is = x.upper_is ∙ a;
  lower_is = x.lower_is ∙ b;
  draws_in_is = x.draws_in_is ∙ e;
  draws_out_is = x.draws_out_is ∙ f;
  turn_is = x.turn_is;
  cell_is = x.cell_is;
  shut_is = x.shut_is;
  past_is = x.past_is;
  stand = x.stand;
  others = x.others;
}

-- a step that leaves a mark and writes no turn and no cell
pub one_step : {A : Type 0} (st : QueueState A) (n : ℕ) (κ : Kind A) (p : Phase A) (u l : ℤ) (i d : ℕ)
    → Changes st (record (record st { upper = u; lower = l; draws_in = i; draws_out = d }) { phase = with_at st.phase n p; past = (record { seat = n; kind = κ }) ∷ st.past }) ((record { seat = n; kind = κ }) ∷ []) u l i d ((n, p) ∷ [])
one_step st n κ p u l i d = record {
  upper_is = refl;
  lower_is = refl;
  draws_in_is = refl;
  draws_out_is = refl;
  turn_is = refl;
  cell_is = refl;
  shut_is = refl;
  past_is = refl;
  stand = (at_here st.phase n p, tt);
  others = λ k out. at_else st.phase n k p (λ e. out (inl e));
}

-- one test: the seat was in phase p and is now in phase q
pub one_test : {A : Type 0} (st : QueueState A) (n : ℕ) (marks : List (Mark A)) (p q : Phase A)
    → Changes st (record st { phase = with_at (with_at st.phase n p) n q; past = marks ++ st.past }) marks st.upper st.lower st.draws_in st.draws_out ((n, q) ∷ [])
one_test st n marks p q = record {
  upper_is = refl;
  lower_is = refl;
  draws_in_is = refl;
  draws_out_is = refl;
  turn_is = refl;
  cell_is = refl;
  shut_is = refl;
  past_is = refl;
  stand = (at_here (with_at st.phase n p) n q, tt);
  others = λ k out. at_else (with_at st.phase n p) n k q (λ e. out (inl e)) ∙ at_else st.phase n k p (λ e. out (inl e));
}

pub no_items : {A : Type 0} (l : List A) → length l ≡ 0 → l ≡ []
no_items [] e = refl
no_items (x ∷ l) e = absurd (omega (arith, e))

pub not_both : {X : Type 0} (b : Bool) → b ≡ true → b ≡ false → X
not_both b t f = absurd (let two : true ≡ false = sym t ∙ f in cc)
