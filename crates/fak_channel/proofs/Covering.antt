-- How looks pay what an end owes on one side.
use Rattle.std.proofs.Common.{◌≡◌, ◌≢◌, ◌⊎◌, ℕ, zero, suc, ◌+◌, ◌*◌, ◌-◌, ◌/◌, ◌<◌, ◌≤◌, Bool, true, false, refl, ap, sym, ◌∙◌, subst, inl, inr, arith, nat_lt, if◌then◌else◌}
use Rattle.std.specs.Prelude.{◌||◌, ◌==◌}
use Rattle.fak_model.specs.Limits.{large_seats}
use Rattle.fak_model.proofs.Common.{nat_tests}
use Rattle.fak_channel_core.specs.SleeperSides.{Duty, has_passed, less, passes_word}
use Rattle.fak_queue.proofs.SleeperNotes.{all_true}
use Rattle.fak_channel.specs.declared.standing.Looks.{Looks}
use Rattle.fak_channel.specs.Looks.{words_of, word_at, IsToPass, next_in, owing, past_word, past_bits, finding, retrying, done_at, Covers}

true_is_not_false : {A : Type 0} → true ≡ false → A
true_is_not_false e = absurd (let f : true ≡ false = e in cc)

-- ---- numbers

same_or_not : (a b : ℕ) → (a ≡ b) ⊎ (a ≢ b)
same_or_not zero zero = inl refl
same_or_not zero (suc b) = inr (λ e. omega (arith, e))
same_or_not (suc a) zero = inr (λ e. omega (arith, e))
same_or_not (suc a) (suc b) = elim (same_or_not a b) [ inl e ↦ inl (ap suc e) | inr other ↦ inr (λ e. other (omega (arith, e))) ]

-- all words are still to be loaded
all_to_pass : (from words v : ℕ) → from < 64 * words → v < words → ((from / 64 ≤ v) × (v < from / 64 + words)) ⊎ (v + words < from / 64 + words)
all_to_pass from words v below small = grind arith

next_below : (count k : ℕ) → 0 < count → next_in count k < count
next_below count k some = grind (arith, nat_tests)

word_of_next : (words k : ℕ) → 64 * next_in words k / 64 ≡ next_in words k
word_of_next words k = omega arith

-- one word less is to be loaded
passed_one : (from words left v : ℕ) → from < 64 * words → left ≤ words → v < words → ((from / 64 ≤ v) × (v < from / 64 + left)) ⊎ (v + words < from / 64 + left)
    → (v ≡ from / 64) ⊎ (((64 * next_in words (from / 64) / 64 ≤ v) × (v < 64 * next_in words (from / 64) / 64 + (left - 1))) ⊎ (v + words < 64 * next_in words (from / 64) / 64 + (left - 1)))
passed_one from words left v below few small is = grind (arith, nat_tests)

-- none is left after the last
passed_last : (from words left v : ℕ) → from < 64 * words → left ≤ 1 → v < words → ((from / 64 ≤ v) × (v < from / 64 + left)) ⊎ (v + words < from / 64 + left) → v ≡ from / 64
passed_last from words left v below few small is = grind arith

or_right : (a b : Bool) → b ≡ true → a || b ≡ true
or_right true b is = refl
or_right false b is = is

or_left : (a b : Bool) → a ≡ true → a || b ≡ true
or_left true b is = refl
or_left false b is = true_is_not_false (sym is)

same_number : (a b : ℕ) → a ≡ b → (a == b) ≡ true
same_number a b is = grind (arith, nat_tests)

-- the word of this number is passed too
abbrev now_passed : Looks → Duty → ℕ → Bool
now_passed l g v = (v == word_at l) || g.passed v

now_true : (l : Looks) (g : Duty) (v : ℕ) → g.passed v ≡ true → now_passed l g v ≡ true
now_true l g v is = or_right (v == word_at l) (g.passed v) is

now_own : (l : Looks) (g : Duty) (v : ℕ) → v ≡ word_at l → now_passed l g v ≡ true
now_own l g v is = or_left (v == word_at l) (g.passed v) (same_number v (word_at l) is)

less_of_one : (n : ℕ) → n ≤ 1 → less n ≡ 0
less_of_one zero few = refl
less_of_one (suc zero) few = refl
less_of_one (suc (suc n)) few = omega (arith, few)

module _ {ends : ℕ} {l : Looks} {g : Duty} where
  -- the stage does not matter
  pub covers_same : (h : Duty) → h.looks ≡ g.looks → h.passed ≡ g.passed → Covers ends l g → Covers ends l h
  covers_same h looks passed c = record {
    few = subst (λ n. n ≤ 1) (sym looks) c.few;
    owed = λ none. looks ∙ c.owed none;
    from = c.from;
    left = c.left;
    found = c.found;
    passed = λ owed v below past. subst (λ (f : ℕ → Bool). f v ≡ true) (sym passed) (c.passed owed v below past);
  }

  pub covers_owing : (h : Duty) → h.looks ≤ 1 → Covers ends l g → Covers ends (owing ends l) h
  covers_owing h few c = record {
    few = few;
    owed = λ none. true_is_not_false none;
    from = c.from;
    left = omega arith;
    found = c.found;
    passed = λ owed v below past. absurd (past (all_to_pass l.from (words_of ends) v c.from below));
  }

  -- ---- a look

  -- the last word is passed
  all_passed : l.is_owed ≡ true → Covers ends l g → l.left ≤ 1 → has_passed ends (now_passed l g) ≡ true
  all_passed owed c few = all_true (λ k. now_passed l g (k / 64)) ends (λ k below. by k (omega (arith, below)) (same_or_not (k / 64) (word_at l)))
    where
      by : (k : ℕ) → k / 64 < words_of ends → (k / 64 ≡ word_at l) ⊎ (k / 64 ≢ word_at l) → now_passed l g (k / 64) ≡ true
      by k small (inl own) = now_own l g (k / 64) own
      by k small (inr other) = now_true l g (k / 64) (c.passed owed (k / 64) small (λ to. other (passed_last l.from (words_of ends) l.left (k / 64) c.from few small to)))

  pub covers_past : l.is_owed ≡ true → Covers ends l g → Covers ends (past_word ends l) (passes_word ends (word_at l) g)
  covers_past owed c = record {
    few = few_looks (has_passed ends (now_passed l g));
    owed = λ none. ap (λ b. if b then 0 else g.looks) (all_passed owed c (last none));
    from = (let n = next_below (words_of ends) (word_at l) (some_word c.from) in omega (arith, n));
    left = (let n = c.left in omega (arith, n));
    found = c.found;
    passed = λ still v below past. then_passed v below past (same_or_not v (word_at l));
  }
    where
      few_looks : (b : Bool) → (if b then 0 else g.looks) ≤ 1
      few_looks true = omega arith
      few_looks false = c.few

      last : nat_lt 1 l.left ≡ false → l.left ≤ 1
      last is = grind (arith, nat_tests)

      some_word : {n : ℕ} → l.from < 64 * n → 0 < n
      some_word less = omega (arith, less)

      then_passed : (v : ℕ) → v < words_of ends → (IsToPass (words_of ends) (past_word ends l) v → ⊥) → (v ≡ word_at l) ⊎ (v ≢ word_at l) → now_passed l g v ≡ true
      then_passed v below past (inl own) = now_own l g v own
      then_passed v below past (inr other) = now_true l g v (c.passed owed v below (λ to. elim (passed_one l.from (words_of ends) l.left v c.from c.left below to) [ inl own ↦ other own | inr still ↦ past still ]))

  pub covers_round : l.is_owed ≡ true → Covers ends l g → Covers ends (past_bits ends l) g
  covers_round owed c = record {
    few = c.few;
    owed = λ none. true_is_not_false (sym owed ∙ none);
    from = new_from;
    left = omega arith;
    found = c.found;
    passed = λ owed v below past. absurd (past (all_to_pass (64 * next_in (words_of ends) (word_at l)) (words_of ends) v new_from below));
  }
    where
      new_from : 64 * next_in (words_of ends) (word_at l) < 64 * words_of ends
      new_from = let below = c.from in let n = next_below (words_of ends) (word_at l) (omega (arith, below)) in omega (arith, n)

  pub covers_finding : (k : ℕ) → k < large_seats → Covers ends l g → Covers ends (finding k l) g
  covers_finding k small c = record { few = c.few; owed = c.owed; from = c.from; left = c.left; found = small; passed = c.passed }

  pub covers_retrying : Covers ends l g → Covers ends (retrying l) g
  covers_retrying c = record { few = c.few; owed = c.owed; from = c.from; left = c.left; found = tt; passed = c.passed }

  pub covers_done : (k : ℕ) → Covers ends l g → Covers ends (done_at ends k l) (record g { looks = less g.looks })
  covers_done k c = record {
    few = (let none = less_of_one g.looks c.few in omega (arith, none));
    owed = λ none. less_of_one g.looks c.few;
    from = next_from ends k c.from;
    left = c.left;
    found = tt;
    passed = λ owed. true_is_not_false (sym owed);
  }
    where
      next_from : (n k : ℕ) → l.from < 64 * words_of ends → next_in ends k < 64 * words_of ends
      next_from n k below = grind (arith, nat_tests)
