-- What is left to do for a duty, at either side of a channel whose sleepers are bits: a duty that does not rest
-- has a sign that leaves it less.
use Rattle.std.specs.Prelude.{◌≡◌, ◌≢◌, ◌⊎◌, ℕ, suc, zero, ◌+◌, ◌*◌, ◌/◌, ◌==◌, ◌<◌, ◌≤◌, cond, Bool, true, false, not, ◌||◌}
use Rattle.fak_model.proofs.Leading.{sum_one, sum_le}
use Rattle.fak_core.specs.QueueMoves.{with_at}
use Rattle.fak_core.proofs.Common.{arith, nat_tests, common_steps, refl, sym, ap, ◌∙◌, inl, inr, same_or_not}
use Rattle.fak_core.proofs.QueueReached.{true_or_false}
use Rattle.fak_core.proofs.QueueSteps.{by_test}
use Rattle.fak_core.proofs.QueueTurns.{at_here, at_else, by_place}
use Rattle.fak_model.specs.declared.note.Sign.{Sign}
use Rattle.fak_model.specs.declared.note.Sign.TheVariants.{TakesBack, IsWoken, GivesUp, PassesWord, WakesEnd}
use Rattle.fak_channel_core.specs.SleeperSides.{SleepStage, Awake, Registered, PastLower, Asleep, Woken, Duty, owes_look, has_passed, passes_word, less, after_sign, bits_after, is_clear, is_woken, relies_on_bit, may_sign}
use Rattle.fak_channel_core.specs.SleeperProgress.{stage_left, unpassed, looks_left, duty_left, asleep_left}
use Rattle.fak_channel_core.proofs.SleeperTests.{make_both, not_false}
use Rattle.fak_channel_core.proofs.SleeperWeights.{some_below}

-- ---- what is left of looks

unpassed_most : (n : ℕ) (g : Duty) → unpassed n g ≤ n
unpassed_most zero g = omega arith
unpassed_most (suc n) g = let one = at_most (g.passed (n / 64)) in omega (arith, unpassed_most n g)
  where
    at_most : (c : Bool) → cond c 0 1 ≤ 1
    at_most c = grind (arith, common_steps)

pub looks_most : (n : ℕ) (g : Duty) (d : ℕ) → looks_left n g d ≤ d + n
looks_most n g zero = omega arith
looks_most n g (suc d) = omega (arith, unpassed_most n g)

pub looks_some : (n : ℕ) (g : Duty) (d : ℕ) → d ≤ looks_left n g d
looks_some n g zero = omega arith
looks_some n g (suc d) = omega arith

-- a woken sleeper is one look less
looks_less : (n : ℕ) (g : Duty) (d : ℕ) → d ≢ 0 → looks_left n g (less d) < looks_left n g d
looks_less n g zero ne = absurd (ne refl)
looks_less n g (suc zero) ne = omega arith
looks_less n g (suc (suc d)) ne = omega arith

-- a passed word is one name less at least
passed_less : (n k : ℕ) (g : Duty) → k < n → g.passed (k / 64) ≡ false → unpassed n (passes_word n (k / 64) g) < unpassed n g
passed_less n k g l none =
    let old : ℕ → ℕ = λ j. cond (g.passed (j / 64)) 0 1 in
    let new : ℕ → ℕ = λ j. cond ((j / 64 == k / 64) || g.passed (j / 64)) 0 1 in
    let mid : ℕ → ℕ = with_at old k 0 in
    let one = sum_one old mid k n l (λ j ne. at_else old k j 0 ne) in
    let le = sum_le new mid n (λ j. by_place (λ (m : ℕ). new j ≤ m) old k j 0 (λ q. new_none j q) (λ ne. or_less (j / 64 == k / 64) (g.passed (j / 64)))) in
    let here = at_here old k 0 in
    let was = ap {B = ℕ} (λ c. cond c 0 1) none in omega arith
  where
    new_none : (j : ℕ) → j ≡ k → cond ((j / 64 == k / 64) || g.passed (j / 64)) 0 1 ≤ 0
    new_none j q = grind (arith, common_steps, nat_tests)

    or_less : (a b : Bool) → cond (a || b) 0 1 ≤ cond b 0 1
    or_less a b = grind (arith, common_steps)

looks_fewer : (n : ℕ) (g h : Duty) (d : ℕ) → d ≢ 0 → unpassed n h < unpassed n g → looks_left n h d < looks_left n g d
looks_fewer n g h zero ne l = absurd (ne refl)
looks_fewer n g h (suc d) ne l = omega arith

some_looks : (d : ℕ) → d ≢ 0 → 1 ≤ d
some_looks zero ne = absurd (ne refl)
some_looks (suc d) ne = omega arith

-- ---- what is left for a stage

stage_fewer : (n : ℕ) (p : SleepStage) (i : Bool) (d d' : ℕ) → d ≢ 0 → stage_left n p i d' ≤ stage_left n p i d
stage_fewer n p i d d' ne = grind (arith, common_steps)

-- a word that its looks pass leaves it less to do
word_less : (n k : ℕ) (g : Duty) (i : Bool) → k < n → g.looks ≢ 0 → g.passed (k / 64) ≡ false → duty_left n (passes_word n (k / 64) g) i < duty_left n g i
word_less n k g i l ne none =
    by_test (λ (d : ℕ). stage_left n g.stage i d + looks_left n (passes_word n (k / 64) g) d < duty_left n g i) (has_passed n (passes_word n (k / 64) g).passed) 0 g.looks
    (λ b. let w = stage_fewer n g.stage i g.looks 0 ne in let some = looks_some n g g.looks in let pos = some_looks g.looks ne in omega arith)
    (λ b. let less = looks_fewer n g (passes_word n (k / 64) g) g.looks ne (passed_less n k g l none) in omega arith)

-- so does a sleeper that it wakes, be it itself
wakes_less : (n : ℕ) (g : Duty) (i i' : Bool) → g.looks ≢ 0 → (i ≡ true) ⊎ (i' ≡ i) → duty_left n (record g { looks = less g.looks }) i' < duty_left n g i
wakes_less n g i i' ne same =
    let fewer = looks_less n g g.looks ne in let w = stage_wakes n g.stage i i' g.looks ne same in omega arith
  where
    stage_wakes : (n : ℕ) (p : SleepStage) (i i' : Bool) (d : ℕ) → d ≢ 0 → (i ≡ true) ⊎ (i' ≡ i) → stage_left n p i' (less d) ≤ stage_left n p i d
    stage_wakes n p i i' d ne same = grind (arith, common_steps)

-- ---- at either side

-- a sign of end e that leaves less to do, of this duty and these bits
module _ (n e : ℕ) (h : Duty) (bit : ℕ → Bool) (K' : has_passed n h.passed ≡ true → h.looks ≡ 0) where
  abbrev pub Helps : Sign → Type 0
  Helps v = duty_left n (after_sign n v h) (bits_after v e bit e) < duty_left n h (bit e)

  abbrev pub SomeHelps : Type 0
  SomeHelps = (v : Sign) × (may_sign (record { duty = λ k. h; bit = bit }) e v ≡ true) × Helps v

  -- its looks pass a word, or wake an end
  look_helps : h.looks ≢ 0 → SomeHelps
  look_helps ne = elim (true_or_false (has_passed n h.passed)) [
    | inl all ↦ absurd (ne (K' all))
    | inr some ↦ (let k = some_below (λ k. h.passed (k / 64)) n some in by_word k.0 k.1 k.2)
  ]
    where
      own_bit : (k : ℕ) → bit k ≡ true → (bit e ≡ true) ⊎ (with_at bit k false e ≡ bit e)
      own_bit k set = elim (same_or_not e k) [ inl q ↦ inl (ap bit q ∙ set) | inr ne ↦ inr (at_else bit k e false ne) ]

      by_word : (k : ℕ) → k < n → h.passed (k / 64) ≡ false → SomeHelps
      by_word k l none = elim (true_or_false (is_clear bit (k / 64))) [
        | inl clear ↦ (PassesWord (k / 64), clear, word_less n k h (bit e) l ne none)
        | inr some ↦ (let j = some_below (λ j. not (bit (64 * (k / 64) + j))) 64 some in
            let set = not_false (bit (64 * (k / 64) + j.0)) j.2 in
            (WakesEnd (64 * (k / 64) + j.0), set, wakes_less n h (bit e) (with_at bit (64 * (k / 64) + j.0) false e) ne (own_bit (64 * (k / 64) + j.0) set)))
      ]

  -- it may take back its bit, or sees that it was woken
  back_helps : relies_on_bit h.stage ≡ true → stage_left n h.stage (bit e) h.looks ≢ 0 → SomeHelps
  back_helps r busy = elim (true_or_false (bit e)) [
    | inl set ↦ (TakesBack, make_both (relies_on_bit h.stage) (bit e) r set, (let some = some_looks (stage_left n h.stage (bit e) h.looks) busy in omega arith))
    | inr clear ↦ (IsWoken, make_both (relies_on_bit h.stage) (not (bit e)) r (ap not clear), (let some = woken_less n h.stage (bit e) h.looks r clear in omega arith))
  ]
    where
      woken_less : (n : ℕ) (p : SleepStage) (i : Bool) (d : ℕ) → relies_on_bit p ≡ true → i ≡ false → n + 3 ≤ stage_left n p i d
      woken_less n p i d r clear = grind (arith, common_steps)

  gives_up_helps : h.stage ≡ Woken → SomeHelps
  gives_up_helps woken = (
    GivesUp,
    ap is_woken woken,
    let more = looks_most n (owes_look (record h { stage = Awake })) (h.looks + 1) in let some = looks_some n h h.looks in
        let is = ap (λ p. stage_left n p (bit e) h.looks) woken in omega arith,
  )

  abbrev pub Rests : Type 0
  Rests = (h.looks ≡ 0) × ((h.stage ≡ Awake) ⊎ ((h.stage ≡ Asleep) × (bit e ≡ true)))

  stage_rests : (p : SleepStage) (i : Bool) → h.stage ≡ p → bit e ≡ i → h.looks ≡ 0 → Rests ⊎ SomeHelps
  stage_rests Awake i q is none = inl (none, inl q)
  stage_rests Registered i q is none = inr (back_helps (ap relies_on_bit q) (λ z. absurd (busy (sym (ap (λ p. stage_left n p (bit e) h.looks) q) ∙ z))))
    where
      busy : n + 3 ≢ 0
      busy z = absurd (omega arith)
  stage_rests PastLower i q is none = inr (back_helps (ap relies_on_bit q) (λ z. absurd (busy (sym (ap (λ p. stage_left n p (bit e) h.looks) q) ∙ z))))
    where
      busy : n + 3 ≢ 0
      busy z = absurd (omega arith)
  stage_rests Asleep true q is none = inl (none, inr (q, is))
  stage_rests Asleep false q is none = inr (back_helps (ap relies_on_bit q) (λ z. absurd (busy (sym (ap (λ p. stage_left n p (bit e) h.looks) q ∙ ap (λ i. asleep_left n i h.looks) is) ∙ z))))
    where
      busy : n + 3 ≢ 0
      busy z = absurd (omega arith)
  stage_rests Woken i q is none = inr (gives_up_helps q)

  -- this side rests, or some sign leaves it less to do
  pub rests_or_helps : Rests ⊎ SomeHelps
  rests_or_helps = by_looks h.looks refl
    where
      by_looks : (d : ℕ) → h.looks ≡ d → Rests ⊎ SomeHelps
      by_looks zero q = stage_rests h.stage (bit e) refl refl q
      by_looks (suc d) q = inr (look_helps (λ z. absurd (never d (sym q ∙ z))))
        where
          never : (d : ℕ) → suc d ≡ 0 → ⊥
          never d z = absurd (omega arith)

-- ---- rest

pub duty_rests : (n : ℕ) (g : Duty) (i : Bool) → g.looks ≡ 0 → (g.stage ≡ Awake) ⊎ ((g.stage ≡ Asleep) × (i ≡ true)) → duty_left n g i ≡ 0
duty_rests n g i none r =
    let looks = ap (looks_left n g) none in let left = ap (stage_left n g.stage i) none in
    let stage : stage_left n g.stage i 0 ≡ 0 = elim r [ inl awake ↦ ap (λ p. stage_left n p i 0) awake | inr asleep ↦ ap (λ p. stage_left n p i 0) asleep.0 ∙ ap (λ i. asleep_left n i 0) asleep.1 ] in omega arith

pub no_looks : (n : ℕ) (g : Duty) (d : ℕ) → looks_left n g d ≡ 0 → d ≡ 0
no_looks n g d z = omega (arith, looks_some n g d)

pub stage_done : (n : ℕ) (p : SleepStage) (i : Bool) (d : ℕ) → stage_left n p i d ≡ 0 → (p ≡ Awake) ⊎ ((p ≡ Asleep) × (i ≡ true))
stage_done n Awake i d z = inl refl
stage_done n Registered i d z = absurd (omega arith)
stage_done n PastLower i d z = absurd (omega arith)
stage_done n Asleep true d z = inr (refl, refl)
stage_done n Asleep false d z = absurd (omega arith)
stage_done n Woken i d z = absurd (omega arith)
