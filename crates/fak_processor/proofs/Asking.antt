-- What calls add to the looks of a seat, and how each look comes to be asked of the gate.
use Rattle.fak_model.specs.Queue.{count}
use Rattle.fak_model.specs.declared.queue.Kind.TheVariants as made
use Rattle.fak_queue.proofs.AfterRefusals.{at_once}
use Rattle.fak_queue.proofs.Weighing.{count_more}
use Rattle.fak_queue.specs.Queues.{Deletes}
use Rattle.fak_run.specs.Gates.{look_behind}
use Rattle.fak_processor.proofs.Common.{◌≡◌, ◌⊎◌, ◌∙◌, ℕ, ◌+◌, ◌-◌, Bool, true, false, List, [], ◌∷◌, refl, ap, sym, subst, arith, inl, inr, common_steps, nat_tests, SeatInfo, Kind, Mark, Makes, made_by, RefusesEmpty, ShutsAs, kinds_out, kinds_not_in, InsertsAfterFull, ClosesAfterFull, none_in, HasPassed}
use Rattle.fak_processor.specs.Asking.{look_of, looks_of, counted, AreAsked, HasAsked}

-- ---- calls on a queue

module _ {A : Type 0} {size : ℕ} {old new : SeatInfo (Mark A)} where
  -- an insertion is no look
  pub looks_in : {k : ℕ} {x : A} → InsertsAfterFull size k x old new → looks_of new ≡ looks_of old
  looks_in i = omega (arith, count_more look_of kinds_not_in (none_in look_of refl) i.tries)

  pub looks_closed : ClosesAfterFull size old new → looks_of new ≡ looks_of old
  looks_closed c = omega (arith, count_more look_of kinds_not_in (none_in look_of refl) c.tries, none_in {A = A} look_of refl old.name c.closed)

  -- a call of these kinds, with no refusal before it
  looks_made : (kinds : List (Kind A)) → Makes size kinds old new → looks_of new ≡ looks_of old + count look_of (made_by old.name kinds)
  looks_made kinds m = count_more look_of kinds_not_in (none_in look_of refl) (at_once kinds_not_in m)

  -- a deletion is one
  pub looks_out : {k : ℕ} {x : A} → Deletes size k x old new → looks_of new ≡ looks_of old + 1
  looks_out {k} {x} d = looks_made (kinds_out k x) d.makes

  none_there : Makes size (made.NoItem ∷ []) old new ⊎ Makes size (made.OverOut ∷ made.BackOut ∷ []) old new → looks_of new ≡ looks_of old + 1
  none_there (inl m) = looks_made (made.NoItem ∷ []) m
  none_there (inr m) = looks_made (made.OverOut ∷ made.BackOut ∷ []) m

  pub looks_empty : {lower : _} → RefusesEmpty size lower old new → looks_of new ≡ looks_of old + 1
  looks_empty r = none_there r.makes

-- a shut is none
pub looks_shut : {A : Type 0} (size : ℕ) (old new : SeatInfo (Mark A)) (first : Bool) → ShutsAs size first old new → looks_of new ≡ looks_of old
looks_shut size old new true s = omega (arith, looks_made (made.Close ∷ []) s.0)
looks_shut size old new false s = omega (arith, looks_made (made.Close ∷ []) s.0)

-- ---- the gate

-- the count after one more look
counted_next : (n : ℕ) → look_behind (counted n) ≡ counted (n + 1)
counted_next n = grind (arith, common_steps, nat_tests, look_behind, counted)

-- one more look was passed
passed_more : (answers : ℕ → Bool → Type 0) (made : ℕ) → HasPassed answers made → answers made true → HasPassed answers (look_behind made)
passed_more answers made was now k low = grind (arith, common_steps, nat_tests, look_behind, was, now)

module _ {A : Type 0} (answers : ℕ → Bool → Type 0) where
  pub none_asked : (seat : SeatInfo (Mark A)) → AreAsked answers (looks_of seat) seat 0
  none_asked seat = record { looks = 0; seen = omega arith; made_are = refl; passed = λ k low. absurd (omega (arith, low)) }

  module _ {before made : ℕ} {a b : SeatInfo (Mark A)} (was : AreAsked answers before a made) where
    -- no look
    pub asked_still : looks_of b ≡ looks_of a → AreAsked answers before b made
    asked_still same = record { looks = was.looks; seen = same ∙ was.seen; made_are = was.made_are; passed = was.passed }

    -- one look
    pub asked_next : {next : ℕ} → looks_of b ≡ looks_of a + 1 → next ≡ look_behind made → answers made true → AreAsked answers before b next
    asked_next {next} one behind now = record {
      looks = was.looks + 1;
      seen = omega (arith, one, was.seen);
      made_are = behind ∙ (ap look_behind was.made_are ∙ counted_next was.looks);
      passed = subst (HasPassed answers) (sym behind) (passed_more answers made was.passed now);
    }

  -- all looks
  pub all_asked : {made : ℕ} (a : SeatInfo (Mark A)) {b : SeatInfo (Mark A)} → AreAsked answers (looks_of a) b made → HasAsked answers a b
  all_asked a {b} are =
      let looks : are.looks ≡ looks_of b - looks_of a = omega (arith, are.seen) in
      subst (HasPassed answers) (are.made_are ∙ ap counted looks) are.passed

-- ---- the loop

-- one turn of the loop, of a processor of this number, and a look at busy
pub asked_on : (answers : ℕ → ℕ → Bool → Type 0) {name number before made next : ℕ} {A : Type 0} {a b c : SeatInfo (Mark A)} → name ≡ number → AreAsked (answers number) before a made → (AreAsked (answers name) before a made → AreAsked (answers name) before b next) → c ≡ b → AreAsked (answers number) before c next
asked_on answers {number = number} {before} {made} {next} {a = a} {b} {c} same was more is =
    let asked : AreAsked (answers number) before b next = subst (λ (n : ℕ). AreAsked (answers n) before b next) same (more (subst (λ (n : ℕ). AreAsked (answers n) before a made) (sym same) was)) in
    asked_still (answers number) asked (ap looks_of is)
