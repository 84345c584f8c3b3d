-- Sums over the marks of a legal past, by seat.
use Rattle.fak_model.proofs.Common.{Kind, ClaimIn, OverIn, BackIn, EndIn, ClaimOut, OverOut, BackOut, EndOut, LateIn, Mark, count, puts, gots, upper_raise, upper_drop, lower_raise, lower_drop, Stage, ◌≡◌, ◌≢◌, ◌⊎◌, ℕ, zero, suc, ◌+◌, ◌<◌, ◌≤◌, List, [], ◌∷◌, length, refl, ap, ◌∙◌, inl, inr, arith, Idle, Withdrawing, Claimed, Putting, Filled, WithdrawingOut, ClaimedOut, Getting, Taken, common_steps}
use Rattle.fak_model.specs.QueuePast.{UpperBelow, LowerPositive, after, stage, IsNext, IsFair, IsLegalPast, HasNoOpenCall, SeatsBelow}
use Rattle.fak_model.proofs.Deciding.{same_or_not}
use Rattle.fak_model.proofs.QueueStages.{stage_here, stage_else}

-- the sum over the stages of the first n seats
abbrev pub tally : {A : Type 0} → (Stage A → ℕ) → (ℕ → Stage A) → ℕ → ℕ
tally w f zero = 0
tally w f (suc n) = w (f n) + tally w f n

pub tally_same : {A : Type 0} (w : Stage A → ℕ) (f g : ℕ → Stage A) (n : ℕ) → ((s : ℕ) → s < n → f s ≡ g s) → tally w f n ≡ tally w g n
tally_same w f g zero e = refl
tally_same w f g (suc n) e =
    let here = ap w (e n (omega arith)) in
    let rest = tally_same w f g n (λ s l. e s (omega arith)) in omega arith

pub tally_one : {A : Type 0} (w : Stage A → ℕ) (f g : ℕ → Stage A) (t n : ℕ) → t < n → ((s : ℕ) → s ≢ t → g s ≡ f s)
    → tally w g n + w (f t) ≡ tally w f n + w (g t)
tally_one w f g t zero l e = absurd (omega arith)
tally_one w f g t (suc n) l e = elim (same_or_not n t) [
  | inl q ↦ (let rest = tally_same w g f n (λ s b. e s (omega arith)) in
      let x = ap (λ k. w (f k)) q in let y = ap (λ k. w (g k)) q in omega arith)
  | inr d ↦ (let rest = tally_one w f g t n (omega arith) e in let here = ap w (e n d) in omega arith)
]

pub tally_none : {A : Type 0} (w : Stage A → ℕ) (f : ℕ → Stage A) (n : ℕ) → ((s : ℕ) → w (f s) ≡ 0) → tally w f n ≡ 0
tally_none w f zero e = refl
tally_none w f (suc n) e = let here = e n in let rest = tally_none w f n e in omega arith

pub tally_at : {A : Type 0} (w : Stage A → ℕ) (f : ℕ → Stage A) (s n : ℕ) → s < n → w (f s) ≤ tally w f n
tally_at w f s zero l = absurd (omega arith)
tally_at w f s (suc n) l = elim (same_or_not n s) [
  | inl q ↦ let x = ap (λ k. w (f k)) q in omega arith
  | inr d ↦ let rest = tally_at w f s n (omega arith) in omega arith
]

pub seats_more : {A : Type 0} (n k : ℕ) (h : List (Mark A)) → n ≤ k → SeatsBelow n h → SeatsBelow k h
seats_more n k [] l b = tt
seats_more n k (m ∷ h) l b = (omega arith, seats_more n k h l b.1)

abbrev pub seat_bound : {A : Type 0} → List (Mark A) → ℕ
seat_bound [] = 0
seat_bound (m ∷ h) = suc m.seat + seat_bound h

pub seats_bounded : {A : Type 0} (h : List (Mark A)) → SeatsBelow (seat_bound h) h
seats_bounded [] = tt
seats_bounded (m ∷ h) = (omega arith, seats_more (seat_bound h) (suc m.seat + seat_bound h) h (omega arith) (seats_bounded h))

-- if a counts the marks that open something and b those that close it, w of the open calls is their difference
pub conserve : {A : Type 0} (size : ℕ) (a b : Kind A → ℕ) (w : Stage A → ℕ) → w Idle ≡ 0
    → ((h : List (Mark A)) (s : ℕ) (κ : Kind A) → IsNext (stage h s) κ → a κ + w (stage h s) ≡ b κ + w (after h κ))
    → (n : ℕ) (h : List (Mark A)) → IsLegalPast size h → SeatsBelow n h → count a h ≡ count b h + tally w (stage h) n
conserve size a b w z each n [] l below = let t = tally_none w (stage []) n (λ s. z) in omega arith
conserve size a b w z each n (m ∷ h) l below =
    let before = conserve size a b w z each n h l.1 below.1 in
    let step = each h m.seat m.kind l.0.next in
    let moved = tally_one w (stage h) (stage (m ∷ h)) m.seat n below.0 (stage_else m h) in
    let now = ap w (stage_here m h) in
    omega arith

-- ---- the six ways in which a call is open

abbrev pub an_over_in : {A : Type 0} → Kind A → ℕ
an_over_in OverIn = 1
an_over_in LateIn = 1
an_over_in _ = 0

abbrev pub a_back_in : {A : Type 0} → Kind A → ℕ
a_back_in BackIn = 1
a_back_in _ = 0

abbrev pub a_claim_in : {A : Type 0} → Kind A → ℕ
a_claim_in ClaimIn = 1
a_claim_in _ = 0

abbrev pub an_end_in : {A : Type 0} → Kind A → ℕ
an_end_in EndIn = 1
an_end_in _ = 0

abbrev pub an_over_out : {A : Type 0} → Kind A → ℕ
an_over_out OverOut = 1
an_over_out _ = 0

abbrev pub a_back_out : {A : Type 0} → Kind A → ℕ
a_back_out BackOut = 1
a_back_out _ = 0

abbrev pub a_claim_out : {A : Type 0} → Kind A → ℕ
a_claim_out ClaimOut = 1
a_claim_out _ = 0

abbrev pub an_end_out : {A : Type 0} → Kind A → ℕ
an_end_out EndOut = 1
an_end_out _ = 0

abbrev pub in_over_in : {A : Type 0} → Stage A → ℕ
in_over_in Withdrawing = 1
in_over_in _ = 0

abbrev pub in_claim_in : {A : Type 0} → Stage A → ℕ
in_claim_in Claimed = 1
in_claim_in _ = 0

abbrev pub in_put : {A : Type 0} → Stage A → ℕ
in_put (Putting k x) = 1
in_put (Filled k) = 1
in_put _ = 0

abbrev pub in_over_out : {A : Type 0} → Stage A → ℕ
in_over_out WithdrawingOut = 1
in_over_out _ = 0

abbrev pub in_claim_out : {A : Type 0} → Stage A → ℕ
in_claim_out ClaimedOut = 1
in_claim_out _ = 0

abbrev pub in_got : {A : Type 0} → Stage A → ℕ
in_got (Getting k) = 1
in_got (Taken k) = 1
in_got _ = 0

step_over_in : {A : Type 0} (h : List (Mark A)) (s : ℕ) (κ : Kind A) → IsNext (stage h s) κ → an_over_in κ + in_over_in (stage h s) ≡ a_back_in κ + in_over_in (after h κ)
step_over_in h s κ f = grind (arith, common_steps, stage, after, IsNext)

pub open_over_in : {A : Type 0} (size n : ℕ) (h : List (Mark A)) → IsLegalPast size h → SeatsBelow n h → count an_over_in h ≡ count a_back_in h + tally in_over_in (stage h) n
open_over_in size n h l below = conserve size an_over_in a_back_in in_over_in refl step_over_in n h l below

step_claim_in : {A : Type 0} (h : List (Mark A)) (s : ℕ) (κ : Kind A) → IsNext (stage h s) κ → a_claim_in κ + in_claim_in (stage h s) ≡ puts κ + in_claim_in (after h κ)
step_claim_in h s κ f = grind (arith, common_steps, stage, puts, after, IsNext)

pub open_claim_in : {A : Type 0} (size n : ℕ) (h : List (Mark A)) → IsLegalPast size h → SeatsBelow n h → count a_claim_in h ≡ count puts h + tally in_claim_in (stage h) n
open_claim_in size n h l below = conserve size a_claim_in puts in_claim_in refl step_claim_in n h l below

step_put : {A : Type 0} (h : List (Mark A)) (s : ℕ) (κ : Kind A) → IsNext (stage h s) κ → puts κ + in_put (stage h s) ≡ an_end_in κ + in_put (after h κ)
step_put h s κ f = grind (arith, common_steps, stage, puts, after, IsNext)

pub open_put : {A : Type 0} (size n : ℕ) (h : List (Mark A)) → IsLegalPast size h → SeatsBelow n h → count puts h ≡ count an_end_in h + tally in_put (stage h) n
open_put size n h l below = conserve size puts an_end_in in_put refl step_put n h l below

step_over_out : {A : Type 0} (h : List (Mark A)) (s : ℕ) (κ : Kind A) → IsNext (stage h s) κ → an_over_out κ + in_over_out (stage h s) ≡ a_back_out κ + in_over_out (after h κ)
step_over_out h s κ f = grind (arith, common_steps, stage, after, IsNext)

pub open_over_out : {A : Type 0} (size n : ℕ) (h : List (Mark A)) → IsLegalPast size h → SeatsBelow n h → count an_over_out h ≡ count a_back_out h + tally in_over_out (stage h) n
open_over_out size n h l below = conserve size an_over_out a_back_out in_over_out refl step_over_out n h l below

step_claim_out : {A : Type 0} (h : List (Mark A)) (s : ℕ) (κ : Kind A) → IsNext (stage h s) κ → a_claim_out κ + in_claim_out (stage h s) ≡ gots κ + in_claim_out (after h κ)
step_claim_out h s κ f = grind (arith, common_steps, stage, gots, after, IsNext)

pub open_claim_out : {A : Type 0} (size n : ℕ) (h : List (Mark A)) → IsLegalPast size h → SeatsBelow n h → count a_claim_out h ≡ count gots h + tally in_claim_out (stage h) n
open_claim_out size n h l below = conserve size a_claim_out gots in_claim_out refl step_claim_out n h l below

step_got : {A : Type 0} (h : List (Mark A)) (s : ℕ) (κ : Kind A) → IsNext (stage h s) κ → gots κ + in_got (stage h s) ≡ an_end_out κ + in_got (after h κ)
step_got h s κ f = grind (arith, common_steps, stage, gots, after, IsNext)

pub open_got : {A : Type 0} (size n : ℕ) (h : List (Mark A)) → IsLegalPast size h → SeatsBelow n h → count gots h ≡ count an_end_out h + tally in_got (stage h) n
open_got size n h l below = conserve size gots an_end_out in_got refl step_got n h l below

-- ---- bounds

pub count_two : {A : Type 0} (a b c : Kind A → ℕ) → ((κ : Kind A) → a κ ≡ b κ + c κ) → (h : List (Mark A)) → count a h ≡ count b h + count c h
count_two a b c e [] = refl
count_two a b c e (m ∷ h) = let rest = count_two a b c e h in let here = e m.kind in omega arith

upper_raise_two : {A : Type 0} (κ : Kind A) → upper_raise κ ≡ a_claim_in κ + an_over_in κ
upper_raise_two κ = grind (arith, common_steps, upper_raise)

upper_drop_two : {A : Type 0} (κ : Kind A) → upper_drop κ ≡ a_back_in κ + an_end_out κ
upper_drop_two κ = grind (arith, common_steps, upper_drop)

lower_raise_two : {A : Type 0} (κ : Kind A) → lower_raise κ ≡ an_end_in κ + a_back_out κ
lower_raise_two κ = grind (arith, common_steps, lower_raise)

lower_drop_two : {A : Type 0} (κ : Kind A) → lower_drop κ ≡ a_claim_out κ + an_over_out κ
lower_drop_two κ = grind (arith, common_steps, lower_drop)

claim_in_fair : {A : Type 0} (size : ℕ) (h : List (Mark A)) (κ : Kind A) → IsFair size h κ → (a_claim_in κ ≡ 0) ⊎ ((a_claim_in κ ≡ 1) × UpperBelow size h)
claim_in_fair size h κ f = grind (arith, common_steps, IsFair)

claim_out_fair : {A : Type 0} (size : ℕ) (h : List (Mark A)) (κ : Kind A) → IsFair size h κ → (a_claim_out κ ≡ 0) ⊎ ((a_claim_out κ ≡ 1) × LowerPositive h)
claim_out_fair size h κ f = grind (arith, common_steps, IsFair)

-- claims of insertions, minus ended deletions, never exceed the size
pub claims_in_bounded : {A : Type 0} (size : ℕ) (h : List (Mark A)) → IsLegalPast size h → count a_claim_in h ≤ size + count an_end_out h
claims_in_bounded size [] l = omega arith
claims_in_bounded size (m ∷ h) l =
    let old = claims_in_bounded size h l.1 in
    elim (claim_in_fair size h m.kind l.0.fair) [
      | inl z ↦ omega arith
      | inr w ↦ (let b = open_over_in size (seat_bound h) h l.1 (seats_bounded h) in
          let u = count_two upper_raise a_claim_in an_over_in upper_raise_two h in
          let d = count_two upper_drop a_back_in an_end_out upper_drop_two h in omega arith)
    ]

-- claims of deletions never exceed the ended insertions
pub claims_out_bounded : {A : Type 0} (size : ℕ) (h : List (Mark A)) → IsLegalPast size h → count a_claim_out h ≤ count an_end_in h
claims_out_bounded size [] l = omega arith
claims_out_bounded size (m ∷ h) l =
    let old = claims_out_bounded size h l.1 in
    elim (claim_out_fair size h m.kind l.0.fair) [
      | inl z ↦ omega arith
      | inr w ↦ (let b = open_over_out size (seat_bound h) h l.1 (seats_bounded h) in
          let u = count_two lower_raise an_end_in a_back_out lower_raise_two h in
          let d = count_two lower_drop a_claim_out an_over_out lower_drop_two h in omega arith)
    ]

-- if a seat has a granted deletion without a ticket, there is an item that nobody has got
pub claimed_out_left : {A : Type 0} (size : ℕ) (h : List (Mark A)) → IsLegalPast size h → (s : ℕ) → stage h s ≡ ClaimedOut → count gots h < count puts h
claimed_out_left size h l s e =
    let below = seats_more (seat_bound h) (suc s + seat_bound h) h (omega arith) (seats_bounded h) in
    let a = open_claim_out size (suc s + seat_bound h) h l below in
    let b = open_put size (suc s + seat_bound h) h l below in
    let c = claims_out_bounded size h l in
    let d = tally_at in_claim_out (stage h) s (suc s + seat_bound h) (omega arith) in
    let e1 = ap in_claim_out e in omega arith

-- no more was got than was put, and no more is left than the size
pub contents_bounded : {A : Type 0} (size : ℕ) (h : List (Mark A)) → IsLegalPast size h → (count gots h ≤ count puts h) × (count puts h ≤ count gots h + size)
contents_bounded size h l =
    let below = seats_bounded h in
    let a = open_claim_in size (seat_bound h) h l below in
    let b = open_put size (seat_bound h) h l below in
    let c = open_claim_out size (seat_bound h) h l below in
    let d = open_got size (seat_bound h) h l below in
    let e = claims_in_bounded size h l in
    let f = claims_out_bounded size h l in (omega arith, omega arith)

tally_whole : {A : Type 0} (w : Stage A → ℕ) (h : List (Mark A)) (n : ℕ) → w Idle ≡ 0 → HasNoOpenCall h → tally w (stage h) n ≡ 0
tally_whole w h n z e = tally_none w (stage h) n (λ s. ap w (e s) ∙ z)

-- if no call is cut short, both counts are the number of items held
pub whole_counts : {A : Type 0} (size : ℕ) (h : List (Mark A)) → IsLegalPast size h → HasNoOpenCall h
    → (count upper_raise h + count gots h ≡ count upper_drop h + count puts h) × (count lower_raise h + count gots h ≡ count lower_drop h + count puts h)
whole_counts size h l e =
    let below = seats_bounded h in
    let a = open_claim_in size (seat_bound h) h l below in let a0 = tally_whole in_claim_in h (seat_bound h) refl e in
    let b = open_put size (seat_bound h) h l below in let b0 = tally_whole in_put h (seat_bound h) refl e in
    let c = open_claim_out size (seat_bound h) h l below in let c0 = tally_whole in_claim_out h (seat_bound h) refl e in
    let d = open_got size (seat_bound h) h l below in let d0 = tally_whole in_got h (seat_bound h) refl e in
    let o = open_over_in size (seat_bound h) h l below in let o0 = tally_whole in_over_in h (seat_bound h) refl e in
    let p = open_over_out size (seat_bound h) h l below in let p0 = tally_whole in_over_out h (seat_bound h) refl e in
    let ur = count_two upper_raise a_claim_in an_over_in upper_raise_two h in
    let ud = count_two upper_drop a_back_in an_end_out upper_drop_two h in
    let lr = count_two lower_raise an_end_in a_back_out lower_raise_two h in
    let ld = count_two lower_drop a_claim_out an_over_out lower_drop_two h in (omega arith, omega arith)

-- ---- the ranges of the counts

pub tally_most : {A : Type 0} (w : Stage A → ℕ) (f : ℕ → Stage A) (n : ℕ) → ((t : Stage A) → w t ≤ 1) → tally w f n ≤ n
tally_most w f zero e = omega arith
tally_most w f (suc n) e = let here = e (f n) in let rest = tally_most w f n e in omega arith

over_in_one : {A : Type 0} (t : Stage A) → in_over_in t ≤ 1
over_in_one t = grind (arith, common_steps)

over_out_one : {A : Type 0} (t : Stage A) → in_over_out t ≤ 1
over_out_one t = grind (arith, common_steps)

-- with n seats the upper count is 0 to size + n, and the lower count is -n to size
pub upper_range : {A : Type 0} (size n : ℕ) (h : List (Mark A)) → IsLegalPast size h → SeatsBelow n h → (count upper_drop h ≤ count upper_raise h) × (count upper_raise h ≤ count upper_drop h + size + n)
upper_range size n h l below =
    let a = open_claim_in size n h l below in let b = open_put size n h l below in
    let c = open_claim_out size n h l below in let d = open_got size n h l below in
    let o = open_over_in size n h l below in
    let m = tally_most in_over_in (stage h) n over_in_one in
    let e = claims_in_bounded size h l in let f = claims_out_bounded size h l in
    let ur = count_two upper_raise a_claim_in an_over_in upper_raise_two h in
    let ud = count_two upper_drop a_back_in an_end_out upper_drop_two h in (omega arith, omega arith)

pub lower_range : {A : Type 0} (size n : ℕ) (h : List (Mark A)) → IsLegalPast size h → SeatsBelow n h → (count lower_drop h ≤ count lower_raise h + n) × (count lower_raise h ≤ count lower_drop h + size)
lower_range size n h l below =
    let a = open_claim_in size n h l below in let b = open_put size n h l below in
    let c = open_claim_out size n h l below in let d = open_got size n h l below in
    let o = open_over_out size n h l below in
    let m = tally_most in_over_out (stage h) n over_out_one in
    let e = claims_in_bounded size h l in let f = claims_out_bounded size h l in
    let lr = count_two lower_raise an_end_in a_back_out lower_raise_two h in
    let ld = count_two lower_drop a_claim_out an_over_out lower_drop_two h in (omega arith, omega arith)

pub count_few : {A : Type 0} (w : Kind A → ℕ) → ((κ : Kind A) → w κ ≤ 1) → (h : List (Mark A)) → count w h ≤ length h
count_few w e [] = omega arith
count_few w e (m ∷ h) = let here = e m.kind in let rest = count_few w e h in omega arith
