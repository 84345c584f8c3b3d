-- What bursts add to the sums of a bundle's seats.
use Rattle.std.specs.Prelude.{take, drop, min}
use Rattle.std.proofs.lemmas.List.{length-take-le}
use Rattle.std.proofs.lemmas.List.Sums.{sum_by-append, sum_by-take-drop}
use Rattle.fak_model.specs.declared.queue.Kind.TheVariants as made
use Rattle.fak_queue.specs.declared.fault.BurstFault.{BurstFault}
use Rattle.fak_queue.specs.declared.fault.BurstFault.TheVariants.{Worn, Closed, Full}
use Rattle.fak_queue.specs.declared.fault.DeleteFault.TheVariants as deletion
use Rattle.fak_queue.specs.BundleCalls.{BundleInfo, seat_in}
use Rattle.fak_queue.specs.BurstCalls.{SeatMade, GoesOn, asked_of, BurstIn, DeletesBurst, GetsInto, InsertsBurst, PutsFrom, ClaimsBurst, RefusesEach, RefusesBurst, RefusesBurstOut, put_by_all, got_by_all}
use Rattle.fak_queue.proofs.BundleLists.{item_low, item_take}
use Rattle.fak_queue.proofs.BundleWords.{grows_by, count_made}
use Rattle.fak_queue.proofs.Common.{inl, inr, DeleteFault, Kind, Mark, put_of, got_of, seat_of, mine_of, made_by, item_at, count, kinds_in, kinds_out, sum_by, ◌≡◌, ⊎_elim, ℕ, ◌+◌, ◌<◌, ◌≤◌, List, [], ◌∷◌, ◌++◌, length, refl, sym, ap, ◌∙◌, arith, Some, le_or_lt}

-- what the marks of a bundle's seats weigh
abbrev pub weight_all : {T : Type 0} → (Kind T → ℕ) → BundleInfo (Mark T) → ℕ
weight_all v b = sum_by (λ (n : ℕ). count v (mine_of seat_of (seat_in b n))) b.names

module _ {T : Type 0} {size : ℕ} (v : Kind T → ℕ) (old new : BundleInfo (Mark T)) (goes : GoesOn size old new) where
  -- the first seats add what something of theirs weighs
  weighs : (u : T → ℕ) (ys : List T) → length ys ≤ length old.names → ((i n : ℕ) (y : T) → item_at old.names i ≡ Some n → item_at ys i ≡ Some y → count v (mine_of seat_of (seat_in new n)) ≡ count v (mine_of seat_of (seat_in old n)) + u y)
      → ((i n : ℕ) → item_at old.names i ≡ Some n → length ys ≤ i → count v (mine_of seat_of (seat_in new n)) ≡ count v (mine_of seat_of (seat_in old n))) → weight_all v new ≡ weight_all v old + sum_by u ys
  weighs u ys fit own none =
      let names : new.names ≡ old.names = ap (λ (b : BundleInfo (Mark T)). b.names) goes.same_bundle in
      ap (λ l. sum_by (λ (n : ℕ). count v (mine_of seat_of (seat_in new n))) l) names
      ∙ grows_by (λ n. count v (mine_of seat_of (seat_in old n))) (λ n. count v (mine_of seat_of (seat_in new n))) u old.names ys fit own none

  -- a seat whose marks weigh nothing
  nothing : (n : ℕ) (kinds : List (Kind T)) → count v (made_by n kinds) ≡ 0 → SeatMade n kinds old new → count v (mine_of seat_of (seat_in new n)) ≡ count v (mine_of seat_of (seat_in old n))
  nothing n kinds none m = let c = count_made v n old.seen new.seen kinds m in omega (arith, c, none)

asked_few : (most names left d : ℕ) → d ≡ min most (min names left) → (d ≤ names) × (d ≤ most)
asked_few most names left d e = (omega (arith, e), omega (arith, e))

-- ---- insertions

module _ {T : Type 0} {size : ℕ} (kinds_of : ℕ → T → List (Kind T)) (xs : List T) (k j : ℕ) (old new : BundleInfo (Mark T)) (b : BurstIn kinds_of size xs k j old new) where
  burst_weighs : (v : Kind T → ℕ) (u : T → ℕ) → ((n t : ℕ) (x : T) → count v (made_by n (kinds_of t x)) ≡ u x) → ((n : ℕ) → count v (made_by n (made.OverIn ∷ made.BackIn ∷ [])) ≡ 0) → weight_all v new ≡ weight_all v old + sum_by u (take j xs)
  burst_weighs v u each over =
      let most = b.most in
      let few = asked_few (length xs) (length old.names) _ (asked_of (length xs) old) refl in
      let many : length (take j xs) ≡ j = length-take-le j xs (omega (arith, most, few)) in
      weighs v old new b.goes_on u (take j xs) (omega (arith, many, most, few))
      (λ i n y e at.
      let low : i < j = (let l = item_low (take j xs) i y at in omega (arith, l, many)) in
      let g = b.granted i n y e low (sym (item_take xs j i low) ∙ at) in
      let c = count_made v n old.seen new.seen (kinds_of (k + i) y) g.makes in
      c ∙ ap (λ z. count v (mine_of seat_of (seat_in old n)) + z) (each n (k + i) y))
      (λ i n e high. elim (le_or_lt (asked_of (length xs) old) i) [
        | inl far ↦ nothing v old new b.goes_on n [] refl (b.others i n e far)
        | inr near ↦ nothing v old new b.goes_on n (made.OverIn ∷ made.BackIn ∷ []) (over n) (b.over i n e (omega (arith, high, many)) near)
      ])

  pub burst_puts : ((w : T → ℕ) (n t : ℕ) (x : T) → count (put_of w) (made_by n (kinds_of t x)) ≡ w x) → ((w : T → ℕ) (n t : ℕ) (x : T) → count (got_of w) (made_by n (kinds_of t x)) ≡ 0) → (now : List T) → now ≡ drop j xs → PutsFrom xs now old new
  burst_puts put got now is = record {
    put_is = λ w.
        let a = burst_weighs (put_of w) w (put w) (λ n. refl) in
        let s = sum_by-take-drop w xs j in
        let t : sum_by w now ≡ sum_by w (drop j xs) = ap (sum_by w) is in
        omega (arith, a, s, t);
    got_is = λ w.
        let a = burst_weighs (got_of w) (λ x. 0) (got w) (λ n. refl) in
        let z = no_sum (take j xs) in
        omega (arith, a, z);
  }
    where
      no_sum : {A : Type 0} (l : List A) → sum_by (λ (x : A). 0) l ≡ 0
      no_sum [] = refl
      no_sum (x ∷ l) = no_sum l

pub claim_puts : {T : Type 0} {size : ℕ} (xs now : List T) (k j : ℕ) (old new : BundleInfo (Mark T)) → ClaimsBurst size xs k j old new → now ≡ drop j xs → PutsFrom xs now old new
claim_puts {T} xs now k j old new b is = burst_puts (λ (t : ℕ) (x : T). made.ClaimIn ∷ made.Put x ∷ []) xs k j old new b (λ w n t x. omega arith) (λ w n t x. refl) now is

pub insertion_puts : {T : Type 0} {size : ℕ} (xs now : List T) (k j : ℕ) (old new : BundleInfo (Mark T)) → InsertsBurst size xs k j old new → now ≡ drop j xs → PutsFrom xs now old new
insertion_puts xs now k j old new b is = burst_puts kinds_in xs k j old new b (λ w n t x. omega arith) (λ w n t x. refl) now is

-- ---- deletions

module _ {T : Type 0} {size : ℕ} (most : ℕ) (ys : List T) (k : ℕ) (old new : BundleInfo (Mark T)) (b : DeletesBurst size most ys k old new) where
  deletion_weighs : (v : Kind T → ℕ) (u : T → ℕ) → ((n t : ℕ) (x : T) → count v (made_by n (kinds_out t x)) ≡ u x) → ((n : ℕ) → count v (made_by n (made.OverOut ∷ made.BackOut ∷ [])) ≡ 0) → weight_all v new ≡ weight_all v old + sum_by u ys
  deletion_weighs v u each over =
      let few = b.few in
      let fits = asked_few most (length old.names) _ (asked_of most old) refl in
      weighs v old new b.goes_on u ys (omega (arith, few, fits))
      (λ i n y e at.
      let g = b.granted i n y e at in
      let c = count_made v n old.seen new.seen (kinds_out (k + i) y) g.makes in
      c ∙ ap (λ z. count v (mine_of seat_of (seat_in old n)) + z) (each n (k + i) y))
      (λ i n e high. elim (le_or_lt (asked_of most old) i) [
        | inl far ↦ nothing v old new b.goes_on n [] refl (b.others i n e far)
        | inr near ↦ nothing v old new b.goes_on n (made.OverOut ∷ made.BackOut ∷ []) (over n) (b.over i n e high near)
      ])

  pub deletion_gets : (was now : List T) → now ≡ was ++ ys → GetsInto was now old new
  deletion_gets was now is = record {
    put_is = λ w.
        let a = deletion_weighs (put_of w) (λ x. 0) (λ n t x. refl) (λ n. refl) in
        let z = no_sum ys in
        omega (arith, a, z);
    got_is = λ w.
        let a = deletion_weighs (got_of w) w (λ n t x. omega arith) (λ n. refl) in
        let s = sum_by-append w was ys in
        let t : sum_by w now ≡ sum_by w (was ++ ys) = ap (sum_by w) is in
        omega (arith, a, s, t);
  }
    where
      no_sum : {A : Type 0} (l : List A) → sum_by (λ (x : A). 0) l ≡ 0
      no_sum [] = refl
      no_sum (x ∷ l) = no_sum l

-- ---- refusals

module _ {T : Type 0} {size asked : ℕ} (kinds : List (Kind T)) (old new : BundleInfo (Mark T)) (r : RefusesEach size asked kinds old new) where
  each_weighs : (v : Kind T → ℕ) → ((n : ℕ) → count v (made_by n kinds) ≡ 0) → weight_all v new ≡ weight_all v old
  each_weighs v none =
      let w = weighs v old new r.goes_on (λ (x : T). 0) [] (omega arith) (λ i n y e at. absurd cc) (λ i n e high. elim (le_or_lt asked i) [
        | inl far ↦ nothing v old new r.goes_on n [] refl (r.others i n e far)
        | inr near ↦ nothing v old new r.goes_on n kinds (none n) (r.each i n e near)
      ]) in
      omega (arith, w)

-- a refused burst adds nothing
pub record AddsNone {T : Type 0} (old new : BundleInfo (Mark T)) : Type 0 where
  pub put_is : (w : T → ℕ) → put_by_all w new ≡ put_by_all w old
  pub got_is : (w : T → ℕ) → got_by_all w new ≡ got_by_all w old

none_of : {T : Type 0} {size asked : ℕ} (kinds : List (Kind T)) (old new : BundleInfo (Mark T)) → ((w : T → ℕ) (n : ℕ) → count (put_of w) (made_by n kinds) ≡ 0) → ((w : T → ℕ) (n : ℕ) → count (got_of w) (made_by n kinds) ≡ 0) → RefusesEach size asked kinds old new → AddsNone old new
none_of kinds old new put got r = record { put_is = λ w. each_weighs kinds old new r (put_of w) (put w); got_is = λ w. each_weighs kinds old new r (got_of w) (got w) }

none_same : {T : Type 0} (old new : BundleInfo (Mark T)) → new ≡ old → AddsNone old new
none_same old new e = record { put_is = λ w. ap (put_by_all w) e; got_is = λ w. ap (got_by_all w) e }

pub refused_none : {T : Type 0} (size most : ℕ) (old new : BundleInfo (Mark T)) (fault : BurstFault) → RefusesBurst size most old new fault → AddsNone old new
refused_none size most old new Worn r = none_same old new r.unchanged
refused_none size most old new Closed r = ⊎_elim (none_of (made.Closed ∷ []) old new (λ w n. refl) (λ w n. refl)) (none_of (made.LateIn ∷ made.BackIn ∷ []) old new (λ w n. refl) (λ w n. refl)) r.1
refused_none size most old new (Full u) r = ⊎_elim (none_of (made.NoRoom ∷ []) old new (λ w n. refl) (λ w n. refl)) (none_of (made.OverIn ∷ made.BackIn ∷ []) old new (λ w n. refl) (λ w n. refl)) r.1.makes

pub refused_puts : {T : Type 0} (size most : ℕ) (old new : BundleInfo (Mark T)) (fault : BurstFault) (was now : List T) → RefusesBurst size most old new fault → now ≡ was → PutsFrom was now old new
refused_puts size most old new fault was now r e =
    let a = refused_none size most old new fault r in
    record { put_is = λ w. (let p = a.put_is w in let s : sum_by w now ≡ sum_by w was = ap (sum_by w) e in omega (arith, p, s)); got_is = a.got_is }

pub refused_gets : {T : Type 0} (size most : ℕ) (old new : BundleInfo (Mark T)) (fault : DeleteFault) (was now : List T) → RefusesBurstOut size most old new fault → now ≡ was → GetsInto was now old new
refused_gets {T} size most old new fault was now r e =
    let a = none fault r in
    record { put_is = a.put_is; got_is = λ w. (let p = a.got_is w in let s : sum_by w now ≡ sum_by w was = ap (sum_by w) e in omega (arith, p, s)) }
  where
    none : (fault : DeleteFault) → RefusesBurstOut size most old new fault → AddsNone old new
    none deletion.Worn r = none_same old new r.unchanged
    none (deletion.Empty l) r = ⊎_elim (none_of (made.NoItem ∷ []) old new (λ w n. refl) (λ w n. refl)) (none_of (made.OverOut ∷ made.BackOut ∷ []) old new (λ w n. refl) (λ w n. refl)) r.1.makes
