use Rattle.std.proofs.Common.{◌≡◌, ◌⊎◌, ◌∙◌, ℕ, Bool, true, false, ap, inl, inr, sym}
use Rattle.fak_run.specs.Gates.{IsRefused}
use Rattle.fak_callers.proofs.gates.a_gate_refuses_after_its_passes.Goals as goal

-- results that are among others are refused there too
among : (few more : ℕ → Bool → Type 0) → ((k : ℕ) (found : Bool) → few k found → more k found) → IsRefused few → IsRefused more
among few more all refused = record { look = refused.look; passed = λ k low. all k true (refused.passed k low); refused = all refused.look false refused.refused }

of_first : (passes : ℕ → Bool) → passes 0 ≡ false → (k : ℕ) (found : Bool) → (k ≡ 0) × (found ≡ false) → passes k ≡ found
of_first passes refuses k found is = ap passes is.0 ∙ (refuses ∙ sym is.1)

of_second : (passes : ℕ → Bool) → passes 0 ≡ true → passes 1 ≡ false → (k : ℕ) (found : Bool) → ((k ≡ 0) × (found ≡ true)) ⊎ ((k ≡ 1) × (found ≡ false)) → passes k ≡ found
of_second passes admits refuses k found (inl is) = ap passes is.0 ∙ (admits ∙ sym is.1)
of_second passes admits refuses k found (inr is) = ap passes is.0 ∙ (refuses ∙ sym is.1)

of_unasked : (passes looks : ℕ → Bool) → ((k : ℕ) → looks k ≡ true → k ≡ 1) → passes 1 ≡ false → (k : ℕ) (found : Bool) → (looks k ≡ true) × (passes k ≡ found) → (k ≡ 1) × (found ≡ false)
of_unasked passes looks only refuses k found is = (only k is.0, sym is.1 ∙ (ap passes (only k is.0) ∙ refuses))

of_passed : (passes : ℕ → Bool) → ((k : ℕ) → passes k ≡ true) → (k : ℕ) (found : Bool) → passes k ≡ found → found ≡ true
of_passed passes all k found is = sym is ∙ all k

pub returns-clause-first : goal.returns-clause-first
returns-clause-first c passes refuses = among _ _ (of_first passes refuses) c.a_refusal_follows_looks_that_passed.ensures.first

pub returns-clause-second : goal.returns-clause-second
returns-clause-second c passes admits refuses = among _ _ (of_second passes admits refuses) c.a_refusal_follows_looks_that_passed.ensures.second

pub returns-clause-unasked : goal.returns-clause-unasked
returns-clause-unasked c passes looks only refuses refused = c.a_refusal_follows_looks_that_passed.ensures.unasked (among _ _ (of_unasked passes looks only refuses) refused)

pub returns-clause-passed : goal.returns-clause-passed
returns-clause-passed c passes all refused = c.a_refusal_follows_looks_that_passed.ensures.passed (among _ _ (of_passed passes all) refused)
