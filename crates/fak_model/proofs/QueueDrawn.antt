-- Each drawn ticket is done with its cell, or some seat holds it; at most as many seats hold one as there are cells.
use Rattle.fak_model.proofs.Common.{Kind, Put, Got, Fill, Take, Mark, count, puts, gots, Has, Stage, Idle, Putting, Getting, ◌≡◌, ◌⊎◌, ℕ, zero, suc, ◌+◌, ◌<◌, ◌≤◌, List, [], ◌∷◌, refl, sym, ap, ◌∙◌, subst, inl, inr, arith, stage, after, IsNext, IsLegalPast, sum_below, common_steps}
use Rattle.fak_model.proofs.Deciding.{same_or_not}
use Rattle.fak_model.proofs.Leading.{sum_plus}
use Rattle.fak_model.proofs.QueueStages.{stage_here, stage_else}
use Rattle.fak_model.proofs.QueueTickets.{a_put_bit}
use Rattle.fak_model.proofs.QueueCounts.{tally, seat_bound, seats_bounded, in_put, in_got, open_claim_in, open_put, open_claim_out, open_got, claims_in_bounded, claims_out_bounded}

-- ---- insertions

next_fill : {A : Type 0} (k : ℕ) (x : A) (κ : Kind A) → IsNext (Putting k x) κ → κ ≡ Fill k
next_fill k x κ n = grind (arith, common_steps, IsNext)

is_put : {A : Type 0} (κ : Kind A) → 1 ≤ puts κ → (x : A) × (κ ≡ Put x)
is_put κ b = grind (arith, common_steps, puts)

-- the cell of a drawn ticket was filled for it, or some seat is about to fill it
pub filled_or_putting : {A : Type 0} (size : ℕ) (h : List (Mark A)) → IsLegalPast size h → (k : ℕ) → k < count puts h → Has (Fill k) h ⊎ ((s : ℕ) × (x : A) × (stage h s ≡ Putting k x))
filled_or_putting size [] l k b = absurd (omega arith)
filled_or_putting {A} size (m ∷ h) l k b = elim (same_or_not k (count puts h)) [
  | inl now ↦ (let put = is_put m.kind (omega arith) in
      inr (m.seat, put.0, stage_here m h ∙ (ap (after h) put.1 ∙ ap (λ j. Putting j put.0) (sym now))))
  | inr earlier ↦ elim (filled_or_putting size h l.1 k (omega (arith, a_put_bit m.kind))) [
    | inl f ↦ inl (inr f)
    | inr w ↦ elim (same_or_not w.0 m.seat) [
      | inl q ↦ inl (inl (next_fill k w.1 m.kind (subst (λ (t : Stage A). IsNext t m.kind) (ap (stage h) (sym q) ∙ w.2) l.0.next)))
      | inr n ↦ inr (w.0, w.1, stage_else m h w.0 n ∙ w.2)
    ]
  ]
]

-- ---- deletions

next_take : {A : Type 0} (k : ℕ) (κ : Kind A) → IsNext {A = A} (Getting k) κ → κ ≡ Take k
next_take k κ n = grind (arith, common_steps, IsNext)

is_got : {A : Type 0} (κ : Kind A) → 1 ≤ gots κ → (x : A) × (κ ≡ Got x)
is_got κ b = grind (arith, common_steps, gots)

a_got_bit : {A : Type 0} (κ : Kind A) → gots κ ≤ 1
a_got_bit κ = grind (arith, common_steps, gots)

-- the item of a drawn ticket was taken from its cell, or some seat is about to take it
pub taken_or_getting : {A : Type 0} (size : ℕ) (h : List (Mark A)) → IsLegalPast size h → (k : ℕ) → k < count gots h → Has (Take k) h ⊎ ((s : ℕ) × (stage h s ≡ Getting k))
taken_or_getting size [] l k b = absurd (omega arith)
taken_or_getting {A} size (m ∷ h) l k b = elim (same_or_not k (count gots h)) [
  | inl now ↦ (let got = is_got m.kind (omega arith) in
      inr (m.seat, stage_here m h ∙ (ap (after h) got.1 ∙ ap (λ j. Getting j) (sym now))))
  | inr earlier ↦ elim (taken_or_getting size h l.1 k (omega (arith, a_got_bit m.kind))) [
    | inl f ↦ inl (inr f)
    | inr w ↦ elim (same_or_not w.0 m.seat) [
      | inl q ↦ inl (inl (next_take k m.kind (subst (λ (t : Stage A). IsNext t m.kind) (ap (stage h) (sym q) ∙ w.1) l.0.next)))
      | inr n ↦ inr (w.0, stage_else m h w.0 n ∙ w.1)
    ]
  ]
]

-- ---- how many seats hold a ticket

-- 1 if the seat has drawn its ticket and not ended its call, else 0
abbrev pub in_drawn : {A : Type 0} → Stage A → ℕ
in_drawn t = in_put t + in_got t

pub stage_beyond : {A : Type 0} (h : List (Mark A)) (s : ℕ) → seat_bound h ≤ s → stage h s ≡ Idle
stage_beyond [] s b = refl
stage_beyond (m ∷ h) s b = stage_else m h s (λ q. omega arith) ∙ stage_beyond h s (omega arith)

tally_is_sum : {A : Type 0} (w : Stage A → ℕ) (f : ℕ → Stage A) (n : ℕ) → tally w f n ≡ sum_below (λ s. w (f s)) n
tally_is_sum w f zero = refl
tally_is_sum w f (suc n) = omega (arith, tally_is_sum w f n)

-- at most as many seats hold a ticket as the queue has cells
pub drawn_few : {A : Type 0} (size : ℕ) (h : List (Mark A)) → IsLegalPast size h → sum_below (λ s. in_drawn (stage h s)) (seat_bound h) ≤ size
drawn_few size h l =
    let n = seat_bound h in
    let b = seats_bounded h in
    omega (
      arith,
      sum_plus (λ s. in_put (stage h s)) (λ s. in_got (stage h s)) n,
      tally_is_sum in_put (stage h) n,
      tally_is_sum in_got (stage h) n,
      open_claim_in size n h l b,
      open_put size n h l b,
      open_claim_out size n h l b,
      open_got size n h l b,
      claims_in_bounded size h l,
      claims_out_bounded size h l,
    )
