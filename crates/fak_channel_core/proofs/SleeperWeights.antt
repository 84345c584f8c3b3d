-- Sums over the ends of one side of a channel whose sleepers are bits: of the looks that they owe and of those that are
-- awake on their way to sleep or from it. No sign lets a sum fall for an end whose bit stays set.
use Rattle.std.specs.Prelude.{◌≡◌, ◌≢◌, ◌⊎◌, ℕ, suc, zero, ◌+◌, ◌*◌, ◌/◌, ◌%◌, ◌==◌, ◌<◌, ◌≤◌, cond, Bool, true, false, not, ◌||◌}
use Rattle.std.proofs.Math.Nat.{div-add-mod, mod-lt}
use Rattle.fak_model.specs.Histories.{sum_below}
use Rattle.fak_model.proofs.Leading.{sum_none, sum_one, sum_same}
use Rattle.fak_core.specs.QueueMoves.{with_at}
use Rattle.fak_core.proofs.Common.{arith, nat_tests, common_steps, refl, sym, ap, ◌∙◌, subst, inl, inr, same_or_not}
use Rattle.fak_core.proofs.QueueTurns.{at_here, at_else, le_or_lt}
use Rattle.fak_core.proofs.QueueReached.{true_or_false}
use Rattle.fak_channel_core.proofs.SleeperTests.{not_both, both_true, one_false, not_true}
use Rattle.fak_model.specs.declared.note.Sign.{Sign}
use Rattle.fak_model.specs.declared.note.Sign.TheVariants.{Registers, FindsNoItem, FallsAsleep, IsWoken, TakesBack, FindsBit, GivesUp, PassesWord, FindsWord, WakesEnd}
use Rattle.fak_channel_core.specs.SleeperSides.{SleepStage, Awake, Registered, PastLower, Asleep, Woken, Duty, owes_look, all_below, has_passed, passes_word, less, after_sign, bits_after, is_awake, relies_on_bit, is_woken, is_clear}

-- ---- weights, for the sleeper with name b

-- 1 if the bit is not set
abbrev pub unset : Bool → ℕ
unset b = cond b 0 1

-- the looks that are owed, if the word of name b is still to be passed
abbrev pub owed : ℕ → Duty → ℕ
owed b g = cond (g.passed (b / 64)) 0 g.looks

-- 1 if the end is awake on its way to sleep or from it; a woken end whose call tries counts by that call
abbrev pub stirs : SleepStage → Bool → Bool → ℕ
stirs Awake i t = 0
stirs Woken i t = cond t 0 1
stirs _ i t = unset i

abbrev pub weight : ℕ → Duty → Bool → Bool → ℕ → ℕ
weight b g i t m = owed b g + stirs g.stage i t + m

abbrev pub total : ℕ → (ℕ → Duty) → (ℕ → Bool) → (ℕ → Bool) → (ℕ → ℕ) → ℕ → ℕ
total b duty bit tries more n = sum_below (λ k. weight b (duty k) (bit k) (tries k) (more k)) n

-- ---- all numbers below one

pub all_at : (f : ℕ → Bool) (n k : ℕ) → all_below f n ≡ true → k < n → f k ≡ true
all_at f zero k all l = absurd (omega arith)
all_at f (suc n) k all l = elim (same_or_not k n) [
  | inl q ↦ ap f q ∙ (both_true (f n) (all_below f n) all).0
  | inr ne ↦ all_at f n k (both_true (f n) (all_below f n) all).1 (omega arith)
]

pub some_below : (f : ℕ → Bool) (n : ℕ) → all_below f n ≡ false → (k : ℕ) × (k < n) × (f k ≡ false)
some_below f zero none = absurd (grind (arith, common_steps))
some_below f (suc n) none = elim (one_false (f n) (all_below f n) none) [
  | inl here ↦ (n, omega arith, here)
  | inr below ↦ (let r = some_below f n below in (r.0, omega (arith, r.1), r.2))
]

-- ---- what a sign needs

abbrev pub Right : Duty → (ℕ → Bool) → ℕ → Sign → Type 0
Right g bit e Registers = is_awake g.stage ≡ true
Right g bit e FindsNoItem = relies_on_bit g.stage ≡ true
Right g bit e FallsAsleep = relies_on_bit g.stage ≡ true
Right g bit e IsWoken = (relies_on_bit g.stage ≡ true) × (bit e ≡ false)
Right g bit e TakesBack = (relies_on_bit g.stage ≡ true) × (bit e ≡ true)
Right g bit e GivesUp = is_woken g.stage ≡ true
Right g bit e (PassesWord w) = is_clear bit w ≡ true
Right g bit e (FindsBit k b) = Unit {0}
Right g bit e (FindsWord w found) = Unit {0}
Right g bit e (WakesEnd k) = bit k ≡ true

-- ---- what is true of a side of n ends

pub record SideKept (n : ℕ) (duty : ℕ → Duty) (bit : ℕ → Bool) : Type 0 where
  -- only an end that relies on its bit has it set
  pub owner : (k : ℕ) → bit k ≡ true → relies_on_bit (duty k).stage ≡ true
  pub beyond : (k : ℕ) → n ≤ k → (duty k).stage ≡ Awake
  -- an end that owes a look has a word to pass
  pub finished : (k : ℕ) → has_passed n (duty k).passed ≡ true → (duty k).looks ≡ 0

-- ---- the weight of one end after its sign

-- a name in a word without a bit set has its bit clear
pub clear_bit : (bit : ℕ → Bool) (w b : ℕ) → is_clear bit w ≡ true → b / 64 ≡ w → bit b ≡ false
clear_bit bit w b all q =
    let r = all_at (λ j. not (bit (64 * w + j))) 64 (b % 64) all (mod-lt b (omega arith)) in
    let whole : 64 * w + b % 64 ≡ b = ap (λ v. 64 * v + b % 64) (sym q) ∙ div-add-mod b 64 in
    not_true (bit b) (ap (λ i. not (bit i)) (sym whole) ∙ r)

stirs_awake : (p : SleepStage) (i t : Bool) → is_awake p ≡ true → stirs p i t ≡ 0
stirs_awake p i t e = grind (arith, common_steps)

stirs_relying : (p : SleepStage) (i t : Bool) → relies_on_bit p ≡ true → stirs p i t ≡ unset i
stirs_relying p i t e = grind (arith, common_steps)

stirs_woken : (p : SleepStage) (i t : Bool) → is_woken p ≡ true → stirs p i t ≤ 1
stirs_woken p i t e = grind (arith, common_steps)

pub owed_most : (b : ℕ) (g : Duty) → owed b g ≤ g.looks
owed_most b g = grind (arith, common_steps)

less_one : (d : ℕ) → d ≤ less d + 1
less_one d = grind (arith, common_steps)

owed_less : (b : ℕ) (g : Duty) → owed b g ≤ owed b (record g { looks = less g.looks }) + 1
owed_less b g = grind (arith, common_steps, less_one)

-- a word without name b leaves what is owed for b, unless all words are passed
owed_same : (n w b : ℕ) (g : Duty) → b < n → b / 64 ≢ w → owed b (passes_word n w g) ≡ owed b g
owed_same n w b g l ne = elim (true_or_false (g.passed (b / 64))) [
  | inl done ↦ (passed_both done)
  | inr ahead ↦ (passed_none ahead)
]
  where
    passed : ℕ → Bool
    passed v = (v == w) || g.passed v

    passed_at : passed (b / 64) ≡ g.passed (b / 64)
    passed_at = grind (arith, common_steps, nat_tests)

    passed_both : g.passed (b / 64) ≡ true → owed b (passes_word n w g) ≡ owed b g
    passed_both done = ap (λ c. cond c 0 (passes_word n w g).looks) (passed_at ∙ done) ∙ sym (ap (λ c. cond c 0 g.looks) done)

    not_all : g.passed (b / 64) ≡ false → has_passed n passed ≡ false
    not_all ahead = elim (true_or_false (has_passed n passed)) [
      | inl all ↦ absurd (not_both (passed (b / 64)) (all_at (λ k. passed (k / 64)) n b all l) (passed_at ∙ ahead))
      | inr some ↦ some
    ]

    passed_none : g.passed (b / 64) ≡ false → owed b (passes_word n w g) ≡ owed b g
    passed_none ahead =
        ap (λ c. cond c 0 (passes_word n w g).looks) (passed_at ∙ ahead) ∙ (ap (λ c. cond c 0 g.looks) (not_all ahead) ∙ sym (ap (λ c. cond c 0 g.looks) ahead))

-- ---- one end changes

module _ (n : ℕ) (duty duty' : ℕ → Duty) (bit bit' tries : ℕ → Bool) (more : ℕ → ℕ) (e : ℕ) (l : e < n) (same : (k : ℕ) → k ≢ e → duty' k ≡ duty k) (same_bit : (k : ℕ) → k ≢ e → bit' k ≡ bit k) where
  abbrev Old : ℕ → ℕ → ℕ
  Old b k = weight b (duty k) (bit k) (tries k) (more k)

  abbrev New : ℕ → ℕ → ℕ
  New b k = weight b (duty' k) (bit' k) (tries k) (more k)

  one_end : (b : ℕ) → total b duty' bit' tries more n + Old b e ≡ total b duty bit tries more n + New b e
  one_end b = sum_one (Old b) (New b) e n l (λ k ne. ap (λ g. weight b g (bit' k) (tries k) (more k)) (same k ne) ∙ ap (λ i. weight b (duty k) i (tries k) (more k)) (same_bit k ne))

-- the side stays as it should, if it does for the one end that changes
pub kept_one : (n : ℕ) (duty duty' : ℕ → Duty) (bit bit' : ℕ → Bool) (e : ℕ) → e < n → ((k : ℕ) → k ≢ e → duty' k ≡ duty k) → ((k : ℕ) → k ≢ e → bit' k ≡ true → bit k ≡ true)
    → SideKept n duty bit → (bit' e ≡ true → relies_on_bit (duty' e).stage ≡ true) → (has_passed n (duty' e).passed ≡ true → (duty' e).looks ≡ 0) → SideKept n duty' bit'
kept_one n duty duty' bit bit' e l same bits K owner finished = record {
  owner = λ k set. elim (same_or_not k e) [
    | inl q ↦ subst (λ j. relies_on_bit (duty' j).stage ≡ true) (sym q) (owner (ap bit' (sym q) ∙ set))
    | inr ne ↦ ap (λ g. relies_on_bit g.stage) (same k ne) ∙ K.owner k (bits k ne set)
  ];
  beyond = λ k le. elim (same_or_not k e) [
    | inl q ↦ absurd (omega arith)
    | inr ne ↦ ap (λ g. g.stage) (same k ne) ∙ K.beyond k le
  ];
  finished = λ k. elim (same_or_not k e) [
    | inl q ↦ subst (λ j. has_passed n (duty' j).passed ≡ true → (duty' j).looks ≡ 0) (sym q) finished
    | inr ne ↦ subst (λ g. has_passed n g.passed ≡ true → g.looks ≡ 0) (sym (same k ne)) (K.finished k)
  ];
}

-- ---- signs

not_awake : (p : SleepStage) → p ≡ Awake → relies_on_bit p ≡ true → ⊥
not_awake p q r = grind (arith, common_steps)

not_woken : (p : SleepStage) → is_woken p ≡ true → relies_on_bit p ≡ true → ⊥
not_woken p w r = grind (arith, common_steps)

pub none_passed : (n e : ℕ) → e < n → has_passed n (λ w. false) ≡ true → ⊥
none_passed n e l all = not_both false (all_at (λ k. false) n e all l) refl

module _ (n : ℕ) (duty duty' : ℕ → Duty) (bit : ℕ → Bool) (e : ℕ) (l : e < n) (same : (k : ℕ) → k ≢ e → duty' k ≡ duty k) (K : SideKept n duty bit) where
  pub in_use : (k : ℕ) → bit k ≡ true → k < n
  in_use k set = elim (le_or_lt n k) [ inl le ↦ absurd (not_awake (duty k).stage (K.beyond k le) (K.owner k set)) | inr lt ↦ lt ]

  -- a sign sets no bit except the own one
  pub bits_fall : (v : Sign) (k : ℕ) → k ≢ e → bits_after v e bit k ≡ true → bit k ≡ true
  bits_fall Registers k ne set = sym (at_else bit e k true ne) ∙ set
  bits_fall TakesBack k ne set = sym (at_else bit e k false ne) ∙ set
  bits_fall (WakesEnd j) k ne set = elim (same_or_not k j) [
    | inl q ↦ absurd (not_both (bits_after (WakesEnd j) e bit k) set (ap (with_at bit j false) q ∙ at_here bit j false))
    | inr ne' ↦ sym (at_else bit j k false ne') ∙ set
  ]
  bits_fall _ k ne set = set

  own_bit : (v : Sign) → Right (duty e) bit e v → bits_after v e bit e ≡ true → relies_on_bit (after_sign n v (duty e)).stage ≡ true
  own_bit Registers r set = refl
  own_bit FindsNoItem r set = refl
  own_bit FallsAsleep r set = refl
  own_bit IsWoken r set = absurd (not_both (bit e) set r.1)
  own_bit TakesBack r set = absurd (not_both (with_at bit e false e) set (at_here bit e false))
  own_bit GivesUp r set = absurd (not_woken (duty e).stage r (K.owner e set))
  own_bit (FindsBit k b) r set = K.owner e set
  own_bit (PassesWord w) r set = K.owner e set
  own_bit (FindsWord w found) r set = K.owner e set
  own_bit (WakesEnd j) r set = elim (same_or_not e j) [
    | inl q ↦ absurd (not_both (with_at bit j false e) set (ap (with_at bit j false) q ∙ at_here bit j false))
    | inr ne ↦ K.owner e (sym (at_else bit j e false ne) ∙ set)
  ]

  own_looks : (v : Sign) → has_passed n (after_sign n v (duty e)).passed ≡ true → (after_sign n v (duty e)).looks ≡ 0
  own_looks Registers all = K.finished e all
  own_looks FindsNoItem all = K.finished e all
  own_looks FallsAsleep all = K.finished e all
  own_looks IsWoken all = K.finished e all
  own_looks TakesBack all = K.finished e all
  own_looks GivesUp all = absurd (none_passed n e l all)
  own_looks (FindsBit k b) all = K.finished e all
  own_looks (PassesWord w) all = ap (λ c. cond c 0 (duty e).looks) all
  own_looks (FindsWord w found) all = K.finished e all
  own_looks (WakesEnd j) all = ap less (K.finished e all)

  pub sign_kept : (v : Sign) → duty' e ≡ after_sign n v (duty e) → Right (duty e) bit e v → SideKept n duty' (bits_after v e bit)
  sign_kept v here r =
      kept_one n duty duty' bit (bits_after v e bit) e l same (bits_fall v) K
      (λ set. ap (λ g. relies_on_bit g.stage) here ∙ own_bit v r set)
      (λ all. ap (λ g. g.looks) here ∙ own_looks v (sym (ap (λ g. has_passed n g.passed) here) ∙ all))

  module _ (tries : ℕ → Bool) (more : ℕ → ℕ) (b : ℕ) where
    abbrev Grows : (ℕ → Bool) → Type 0
    Grows bit' = total b duty bit tries more n ≤ total b duty' bit' tries more n

    -- only the end itself changes
    own_grows : (bit' : ℕ → Bool) (g : Duty) (i : Bool) → ((k : ℕ) → k ≢ e → bit' k ≡ bit k) → duty' e ≡ g → bit' e ≡ i → weight b (duty e) (bit e) (tries e) (more e) ≤ weight b g i (tries e) (more e) → Grows bit'
    own_grows bit' g i same_bit here own le =
        let one = one_end n duty duty' bit bit' tries more e l same same_bit b in
        let is = ap (λ h. weight b h (bit' e) (tries e) (more e)) here ∙ ap (λ c. weight b g c (tries e) (more e)) own in omega arith

    pub sign_grows : (v : Sign) → duty' e ≡ after_sign n v (duty e) → Right (duty e) bit e v → tries e ≡ false → bit b ≡ true → Grows (bits_after v e bit)
    sign_grows Registers here r t set =
        let a = stirs_awake (duty e).stage (bit e) (tries e) r in
        own_grows (with_at bit e true) (record (duty e) { stage = Registered }) true (λ k ne. at_else bit e k true ne) here (at_here bit e true) (omega arith)
    sign_grows FindsNoItem here r t set =
        let a = stirs_relying (duty e).stage (bit e) (tries e) r in own_grows bit (record (duty e) { stage = PastLower }) (bit e) (λ k ne. refl) here refl (omega arith)
    sign_grows FallsAsleep here r t set =
        let a = stirs_relying (duty e).stage (bit e) (tries e) r in own_grows bit (record (duty e) { stage = Asleep }) (bit e) (λ k ne. refl) here refl (omega arith)
    sign_grows IsWoken here r t set =
        let a = stirs_relying (duty e).stage (bit e) (tries e) r.0 in let c = ap unset r.1 in let d = ap {B = ℕ} (λ t. cond t 0 1) t in
        own_grows bit (record (duty e) { stage = Woken }) (bit e) (λ k ne. refl) here refl (omega arith)
    sign_grows TakesBack here r t set =
        let a = stirs_relying (duty e).stage (bit e) (tries e) r.0 in let c = ap unset r.1 in
        own_grows (with_at bit e false) (record (duty e) { stage = Awake }) false (λ k ne. at_else bit e k false ne) here (at_here bit e false) (omega arith)
    sign_grows GivesUp here r t set =
        let a = stirs_woken (duty e).stage (bit e) (tries e) r in let c = owed_most b (duty e) in
        own_grows bit (owes_look (record (duty e) { stage = Awake })) (bit e) (λ k ne. refl) here refl (omega arith)
    sign_grows (FindsBit k d) here r t set = own_grows bit (duty e) (bit e) (λ k ne. refl) here refl (omega arith)
    sign_grows (FindsWord w found) here r t set = own_grows bit (duty e) (bit e) (λ k ne. refl) here refl (omega arith)
    sign_grows (PassesWord w) here r t set =
        let a = owed_same n w b (duty e) (in_use b set) (λ q. not_both (bit b) set (clear_bit bit w b r q)) in
        own_grows bit (passes_word n w (duty e)) (bit e) (λ k ne. refl) here refl (omega arith)
    sign_grows (WakesEnd j) here r t set =
        let bit1 = with_at bit j false in
        let first = one_end n duty duty bit bit1 tries more j (in_use j r) (λ k ne. refl) (λ k ne. at_else bit j k false ne) b in
        let before = stirs_relying (duty j).stage (bit j) (tries j) (K.owner j r) ∙ ap unset r in
        let after = stirs_relying (duty j).stage (bit1 j) (tries j) (K.owner j r) ∙ ap unset (at_here bit j false) in
        let second = one_end n duty duty' bit1 bit1 tries more e l same (λ k ne. refl) b in
        let is = ap (λ h. weight b h (bit1 e) (tries e) (more e)) here in
        let a = owed_less b (duty e) in omega arith

-- ---- who sleeps after a sign

abbrev pub is_asleep : SleepStage → Bool
is_asleep Asleep = true
is_asleep _ = false

abbrev pub is_past : SleepStage → Bool
is_past PastLower = true
is_past Asleep = true
is_past _ = false

pub past_if_asleep : (p : SleepStage) → is_asleep p ≡ true → is_past p ≡ true
past_if_asleep p a = grind (arith, common_steps)

abbrev pub Falls : Sign → Type 0
Falls FallsAsleep = Unit {0}
Falls _ = ⊥

abbrev pub Finds : Sign → Type 0
Finds FindsNoItem = Unit {0}
Finds _ = ⊥

-- only a second test brings an end to sleep
pub slept : (n : ℕ) (v : Sign) (g : Duty) → is_asleep (after_sign n v g).stage ≡ true → (is_asleep g.stage ≡ true) ⊎ Falls v
slept n v g a = grind (arith, common_steps)

pub was_past : (n : ℕ) (v : Sign) (g : Duty) → (Falls v → is_past g.stage ≡ true) → is_past (after_sign n v g).stage ≡ true → (is_past g.stage ≡ true) ⊎ Finds v
was_past n FallsAsleep g falls a = inl (falls tt)
was_past n FindsNoItem g falls a = inr tt
was_past n Registers g falls a = absurd (not_both false a refl)
was_past n IsWoken g falls a = absurd (not_both false a refl)
was_past n TakesBack g falls a = absurd (not_both false a refl)
was_past n GivesUp g falls a = absurd (not_both false a refl)
was_past n _ g falls a = inl a

-- an end that sleeps after its own sign had its bit set before
kept_bit : (n : ℕ) (v : Sign) (e : ℕ) (bit : ℕ → Bool) (g : Duty) → is_past (after_sign n v g).stage ≡ true → bits_after v e bit e ≡ true → bit e ≡ true
kept_bit n Registers e bit g a set = absurd (not_both false a refl)
kept_bit n TakesBack e bit g a set = absurd (not_both false a refl)
kept_bit n (WakesEnd j) e bit g a set = elim (same_or_not e j) [
  | inl q ↦ absurd (not_both (with_at bit j false e) set (ap (with_at bit j false) q ∙ at_here bit j false))
  | inr ne ↦ sym (at_else bit j e false ne) ∙ set
]
kept_bit n _ e bit g a set = set

-- `is` is true only past a second test, and `C` of what a sum has to cover: each end that is so keeps a sum that covers it
module _ (n : ℕ) (duty duty' : ℕ → Duty) (bit tries : ℕ → Bool) (more : ℕ → ℕ) (is : SleepStage → Bool) (C : ℕ → Type 0) where
  abbrev pub Covered : Type 0
  Covered = (b : ℕ) → is (duty b).stage ≡ true → bit b ≡ true → C (total b duty bit tries more n)

  abbrev pub CoveredAfter : (ℕ → Bool) → Type 0
  CoveredAfter bit' = (b : ℕ) → is (duty' b).stage ≡ true → bit' b ≡ true → C (total b duty' bit' tries more n)

  pub covered_sign : (T : Type 0) (e : ℕ) → e < n → ((k : ℕ) → k ≢ e → duty' k ≡ duty k) → SideKept n duty bit → (v : Sign) → duty' e ≡ after_sign n v (duty e) → Right (duty e) bit e v → tries e ≡ false
      → ((p : SleepStage) → is p ≡ true → is_past p ≡ true) → (is (after_sign n v (duty e)).stage ≡ true → (is (duty e).stage ≡ true) ⊎ T)
      → ((S S' : ℕ) → S ≤ S' → C S → C S') → (T → (S : ℕ) → C S) → Covered → CoveredAfter (bits_after v e bit)
  covered_sign T e l same K v here r t past slept more_covers tests C0 b a set = elim (same_or_not b e) [
    | inl q ↦ (let own : is (after_sign n v (duty e)).stage ≡ true = sym (ap (λ g. is g.stage) here) ∙ (ap (λ j. is (duty' j).stage) (sym q) ∙ a) in
        elim (slept own) [
          | inl before ↦ grown (ap (λ j. is (duty j).stage) q ∙ before) (ap bit q ∙ kept_bit n v e bit (duty e) (past (after_sign n v (duty e)).stage own) (ap (bits_after v e bit) (sym q) ∙ set))
          | inr t ↦ tests t (total b duty' (bits_after v e bit) tries more n)
        ])
    | inr ne ↦ grown (sym (ap (λ g. is g.stage) (same b ne)) ∙ a) (bits_fall n duty duty' bit e l same K v b ne set)
  ]
    where
      grown : is (duty b).stage ≡ true → bit b ≡ true → C (total b duty' (bits_after v e bit) tries more n)
      grown a set =
          more_covers (total b duty bit tries more n) (total b duty' (bits_after v e bit) tries more n)
          (sign_grows n duty duty' bit e l same K tries more b v here r t set) (C0 b a set)

-- the same sums, if nothing on this side changes
pub same_total : (n b : ℕ) (duty duty' : ℕ → Duty) (bit tries : ℕ → Bool) (more more' : ℕ → ℕ) → ((k : ℕ) → duty' k ≡ duty k) → ((k : ℕ) → more' k ≡ more k)
    → total b duty' bit tries more' n ≡ total b duty bit tries more n
same_total n b duty duty' bit tries more more' same same_more =
    sum_same (λ k. weight b (duty' k) (bit k) (tries k) (more' k)) (λ k. weight b (duty k) (bit k) (tries k) (more k)) n
    (λ k l. ap (λ g. weight b g (bit k) (tries k) (more' k)) (same k) ∙ ap (weight b (duty k) (bit k) (tries k)) (same_more k))

pub kept_same : (n : ℕ) (duty duty' : ℕ → Duty) (bit : ℕ → Bool) → ((k : ℕ) → duty' k ≡ duty k) → SideKept n duty bit → SideKept n duty' bit
kept_same n duty duty' bit same K = record {
  owner = λ k set. ap (λ g. relies_on_bit g.stage) (same k) ∙ K.owner k set;
  beyond = λ k le. ap (λ g. g.stage) (same k) ∙ K.beyond k le;
  finished = λ k all. ap (λ g. g.looks) (same k) ∙ K.finished k (sym (ap (λ g. has_passed n g.passed) (same k)) ∙ all);
}

-- ---- rest

pub sum_zero : (f : ℕ → ℕ) (n : ℕ) → ((k : ℕ) → k < n → f k ≡ 0) → sum_below f n ≡ 0
sum_zero f n none = sum_same f (λ k. 0) n none ∙ sum_none (λ k. 0) n (λ k. refl)

pub owed_none : (b : ℕ) (g : Duty) → g.looks ≡ 0 → owed b g ≡ 0
owed_none b g none = grind (arith, common_steps)

pub stirs_none : (p : SleepStage) (i t : Bool) → (p ≡ Awake) ⊎ ((p ≡ Asleep) × (i ≡ true)) → stirs p i t ≡ 0
stirs_none p i t r = elim r [
  | inl awake ↦ ap (λ p. stirs p i t) awake
  | inr asleep ↦ ap (λ p. stirs p i t) asleep.0 ∙ ap unset asleep.1
]
