-- What the calls of a bundle keep of it, and the items on their way between an array and a deque.
use Rattle.std.specs.Prelude.{◌≡◌, ◌≤◌, ◌<◌, ◌-◌, ◌++◌, ℕ, zero, suc, List, [], ◌∷◌, length, take, drop, min, slice_set, slice_index_or, Result, Ok, Err, MatchResult}
use Rattle.std.proofs.Common.{ap, sym, subst, refl, arith, inl, inr}
use Rattle.std.proofs.Math.Nat.{min-le_left, min-le_right}
use Rattle.fak_model.specs.declared.queue.Mark.{Mark}
use Rattle.fak_queue.specs.declared.bundle.BundleState.TheVariants.{Idle, Inserting, Deleting}
use Rattle.fak_queue.specs.declared.burst.Burst.{Burst}
use Rattle.fak_queue.specs.declared.fault.BurstFault.{BurstFault}
use Rattle.fak_queue.specs.declared.fault.BurstFault.TheVariants.{Worn, Closed, Full}
use Rattle.fak_queue.specs.BundleCalls.{BundleInfo, drawn_by_all}
use Rattle.fak_queue.specs.BurstCalls.{GoesOn, ClaimsBurst, RefusesBurst, TriesToFill, TriesToTake, asked_of}
use Rattle.fak_handles.specs.bundle.Open.{open_in}

-- ---- between an array and a deque

-- one item more was copied to its place
pub copied_next : (xs was : List ℕ) (i y d : ℕ) → i < length xs → i < length was → slice_index_or xs i d ≡ y → slice_set (take i xs ++ drop i was) i y ≡ take (suc i) xs ++ drop (suc i) was
copied_next [] was i y d low inside is = absurd (omega (arith, low))
copied_next (x ∷ xs) [] i y d low inside is = absurd (omega (arith, inside))
copied_next (x ∷ xs) (w ∷ was) zero y d low inside is = ap (λ z. z ∷ was) (sym is)
copied_next (x ∷ xs) (w ∷ was) (suc i) y d low inside is = ap (λ l. x ∷ l) (copied_next xs was i y d (omega (arith, low)) (omega (arith, inside)) is)

-- ---- the seats of a bundle stay

module _ {old new : BundleInfo (Mark ℕ)} {size : ℕ} where
  pub goes_on_kept : GoesOn size old new → new.names ≡ old.names
  goes_on_kept g = ap (λ (b : BundleInfo (Mark ℕ)). b.names) g.same_bundle

  pub claim_kept : {xs : List ℕ} {k j : ℕ} → ClaimsBurst size xs k j old new → new.names ≡ old.names
  claim_kept c = goes_on_kept c.goes_on

pub refused_kept : (size most : ℕ) (old new : BundleInfo (Mark ℕ)) (fault : BurstFault) → RefusesBurst size most old new fault → new.names ≡ old.names
refused_kept size most old new Worn r = ap (λ (b : BundleInfo (Mark ℕ)). b.names) r.unchanged
refused_kept size most old new Closed r = elim r.1 [
  | inl e ↦ goes_on_kept e.goes_on
  | inr e ↦ goes_on_kept e.goes_on
]
refused_kept size most old new (Full upper) r = elim r.1.makes [
  | inl e ↦ goes_on_kept e.goes_on
  | inr e ↦ goes_on_kept e.goes_on
]

-- ---- how many calls of a burst are open

pub asked_width : (most : ℕ) (old : BundleInfo (Mark ℕ)) → asked_of most old ≤ length old.names
asked_width most old =
    let one = min-le_right most (min (length old.names) (old.stint - drawn_by_all old)) in
    let two = min-le_left (length old.names) (old.stint - drawn_by_all old) in
    omega (arith, one, two)

module _ {old new : BundleInfo (Mark ℕ)} {size : ℕ} where
  pub claimed_width : {xs : List ℕ} {k j : ℕ} → ClaimsBurst size xs k j old new → j ≤ length new.names
  claimed_width {xs} c = let few = c.most in let wide = asked_width (length xs) old in let names = ap (λ (l : List ℕ). length l) (claim_kept c) in omega (arith, few, wide, names)

  -- of an open burst no more is open after a try
  pub filled_width : {k e g left n : ℕ} → old.state ≡ Inserting k e g → TriesToFill size k e g left old new → open_in old.state ≤ n → open_in new.state ≤ n
  filled_width {left = zero} {n} is t low = subst (λ s. open_in s ≤ n) (sym (t.all refl)) (let none : 0 ≤ n = omega arith in none)
  filled_width {k} {e} {g} {left = suc left} {n} is t low =
      let few = t.few in
      let was : g - e ≤ n = subst (λ s. open_in s ≤ n) is low in
      subst (λ s. open_in s ≤ n) (sym (t.some (omega arith))) (omega (arith, few, was))

  pub taken_width : {k e g left n : ℕ} {ys : List ℕ} → old.state ≡ Deleting k e g → TriesToTake size k e g left ys old new → open_in old.state ≤ n → open_in new.state ≤ n
  taken_width {left = zero} {n} is t low = subst (λ s. open_in s ≤ n) (sym (t.all refl)) (let none : 0 ≤ n = omega arith in none)
  taken_width {k} {e} {g} {left = suc left} {n} is t low =
      let few = t.few in
      let was : g - e ≤ n = subst (λ s. open_in s ≤ n) is low in
      subst (λ s. open_in s ≤ n) (sym (t.some (omega arith))) (omega (arith, few, was))

-- ---- a claim, granted or refused

pub claim_names : (size : ℕ) (xs : List ℕ) (old new : BundleInfo (Mark ℕ)) (r : Result Burst BurstFault) → MatchResult r (λ b. ClaimsBurst size xs b.ticket b.count old new) (RefusesBurst size (length xs) old new) → new.names ≡ old.names
claim_names size xs old new (Ok b) c = goes_on_kept c.goes_on
claim_names size xs old new (Err f) c = refused_kept size (length xs) old new f c

pub claim_open : (size : ℕ) (xs : List ℕ) (old new : BundleInfo (Mark ℕ)) (r : Result Burst BurstFault) → MatchResult r (λ b. ClaimsBurst size xs b.ticket b.count old new) (RefusesBurst size (length xs) old new)
    → MatchResult r (λ b. new.state ≡ Inserting b.ticket 0 b.count) (λ _. new.state ≡ Idle) → open_in new.state ≤ length new.names
claim_open size xs old new (Ok b) c is =
    let fits = claimed_width c in
    subst (λ s. open_in s ≤ length new.names) (sym is) (let low : b.count - 0 ≤ length new.names = omega (arith, fits) in low)
claim_open size xs old new (Err f) c is = subst (λ s. open_in s ≤ length new.names) (sym is) (let none : 0 ≤ length new.names = omega arith in none)
