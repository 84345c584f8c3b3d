-- How a block of steps changes the words and leaves the slots, and how many of it are granted.
use Rattle.fak_core.specs.QueueBlocks.{Grants, GrantsLow}
use Rattle.fak_core.proofs.QueueBlocks.{no_items}
use Rattle.fak_queue.specs.Bursts.{granted_low, granted_of}
use Rattle.fak_queue.proofs.Common.{HasSlot, ◌≡◌, ◌⊎◌, ℕ, ◌+◌, ◌-◌, ◌%◌, ◌^◌, ◌≤◌, List, length, sym, ap, ◌∙◌, subst, inl, inr, arith, Option, ℤ, pos, ◌+ℤ◌, ints, bias, mod-eq_of_lt, common_steps, false, add-mod_left, ◌-ℤ◌, some, In, QueueState, InCell}
use mathlib.Core.Option as maybe
use Rattle.std.specs.Prelude.{◌≤ℤ◌, take, drop, min}
use Rattle.std.proofs.lemmas.List.{length-take, length-drop}
use Rattle.fak_queue.proofs.BurstPosts.{in_or_not}

-- ---- slots

pub homes_stay : {T : Type 0} (size : ℕ) (b c : QueueState T) (homes : List (maybe.Option (Option T))) (names : List ℕ) → c.turn ≡ b.turn → c.cell ≡ b.cell
    → ((n : ℕ) → In n names → (i : ℕ) → InCell size (b.phase n) i → ⊥) → ((n : ℕ) → In n names → (i : ℕ) → InCell size (c.phase n) i → ⊥) → ((n : ℕ) → (In n names → ⊥) → c.phase n ≡ b.phase n)
    → (i : ℕ) → HasSlot size b homes i → HasSlot size c homes i
homes_stay size b c homes names turn cell before after same i (inl h) = inl (
  record { odd = λ q e. h.0.odd q (sym (ap (λ f. f i) turn) ∙ e) ∙ ap (λ (v : Option _). some (some v)) (sym (ap (λ f. f i) cell)); even = λ q e. h.0.even q (sym (ap (λ f. f i) turn) ∙ e) },
  λ t inside. elim (in_or_not t names) [
    | inl j ↦ after t j i inside
    | inr out ↦ h.1 t (subst (λ p. InCell size p i) (same t out) inside)
  ],
)
homes_stay size b c homes names turn cell before after same i (inr o) = inr (
  o.0,
  elim (in_or_not o.0 names) [
    | inl j ↦ absurd (before o.0 j i o.1)
    | inr out ↦ subst (λ p. InCell size p i) (sym (same o.0 out)) o.1
  ],
  o.2,
)

-- ---- words

-- a count's word grows by a number of seats
pub grown_by : (base w : ℕ) (u : ℤ) (hi d : ℕ) → base ≤ 9223372036854775808 → pos w ≡ pos (base + bias) +ℤ u → pos 0 +ℤ u ≡ pos hi → hi ≤ 100000000 → d ≤ 1024 → pos ((w + d) % 2 ^ 64) ≡ pos (base + bias) +ℤ (u +ℤ pos d)
grown_by base w u hi d small e l a b = grind (arith, common_steps, mod-eq_of_lt)

pub grown_low : (w : ℕ) (u : ℤ) (hi d : ℕ) → pos w ≡ pos bias +ℤ u → pos 1024 +ℤ u ≡ pos hi → hi ≤ 100000000 → d ≤ 1024 → pos ((w + d) % 2 ^ 64) ≡ pos bias +ℤ (u +ℤ pos d)
grown_low w u hi d e l a b = grind (arith, common_steps, mod-eq_of_lt)

pub shrunk_by : (base w : ℕ) (u : ℤ) (hi d : ℕ) → base ≤ 9223372036854775808 → pos w ≡ pos (base + bias) +ℤ u → pos 0 +ℤ u ≡ pos hi → hi ≤ 100000000 → d ≤ 1024 → pos ((w + (2 ^ 64 - d)) % 2 ^ 64) ≡ pos (base + bias) +ℤ (u -ℤ pos d)
shrunk_by base w u hi d small e l a b = grind (arith, common_steps, add-mod_left, mod-eq_of_lt)

pub shrunk_low : (w : ℕ) (u : ℤ) (hi d : ℕ) → pos w ≡ pos bias +ℤ u → pos 1024 +ℤ u ≡ pos hi → hi ≤ 100000000 → d ≤ 1024 → pos ((w + (2 ^ 64 - d)) % 2 ^ 64) ≡ pos bias +ℤ (u -ℤ pos d)
shrunk_low w u hi d e l a b = grind (arith, common_steps, add-mod_left, mod-eq_of_lt)

-- as many are granted as find room
pub grants_room : (size w d : ℕ) (u : ℤ) → pos w ≡ pos bias +ℤ u → (granted_of size w d ≡ 0) ⊎ ((u +ℤ pos (granted_of size w d)) ≤ℤ pos size)
grants_room size w d u e = grind (arith, common_steps, ints, bias, min)

pub grants_full : (size w d : ℕ) (u : ℤ) → pos w ≡ pos bias +ℤ u → (d ≤ granted_of size w d) ⊎ (pos size ≤ℤ (u +ℤ pos (granted_of size w d)))
grants_full size w d u e = grind (arith, common_steps, ints, bias, min)

pub few_granted : (size w d : ℕ) → granted_of size w d ≤ d
few_granted size w d = grind (arith, common_steps, min)

pub low_stock : (w d : ℕ) (u : ℤ) → pos w ≡ pos bias +ℤ u → (granted_low w d ≡ 0) ⊎ (pos (granted_low w d) ≤ℤ u)
low_stock w d u e = grind (arith, common_steps, ints, bias, min)

pub low_empty : (w d : ℕ) (u : ℤ) → pos w ≡ pos bias +ℤ u → (d ≤ granted_low w d) ⊎ (u ≤ℤ pos (granted_low w d))
low_empty w d u e = grind (arith, common_steps, ints, bias, min)

pub few_low : (w d : ℕ) → granted_low w d ≤ d
few_low w d = grind (arith, common_steps, min)

pub grants_low : {T : Type 0} (st : QueueState T) (w : ℕ) (items : List (ℕ × Unit {0})) → pos w ≡ pos bias +ℤ st.lower → let j = granted_low w (length items) in GrantsLow st (take j items) (drop j items)
grants_low st w items e =
    let j = granted_low w (length items) in
    let few = few_low w (length items) in
    let taken : length (take j items) ≡ j = length-take j items ∙ grind (arith, common_steps, min) in
    let left : length (drop j items) ≡ length items - j = length-drop j items in
    record {
      stock = elim (low_stock w (length items) st.lower e) [
        | inl zilch ↦ inl (no_items (take j items) (taken ∙ zilch))
        | inr fits ↦ inr (subst (λ n. pos n ≤ℤ st.lower) (sym taken) fits)
      ];
      empty = elim (low_empty w (length items) st.lower e) [
        | inl all ↦ inl (no_items (drop j items) (omega (arith, left, all)))
        | inr over ↦ inr (subst (λ n. st.lower ≤ℤ pos n) (sym taken) over)
      ];
    }

pub grants : {T : Type 0} (size : ℕ) (st : QueueState T) (w : ℕ) (items : List (ℕ × T)) → st.shut ≡ false → pos w ≡ pos bias +ℤ st.upper
    → let j = granted_of size w (length items) in Grants size st (take j items) (drop j items)
grants size st w items opn e =
    let j = granted_of size w (length items) in
    let few = few_granted size w (length items) in
    let taken : length (take j items) ≡ j = length-take j items ∙ grind (arith, common_steps, min) in
    let left : length (drop j items) ≡ length items - j = length-drop j items in
    record {
      opened = opn;
      room = elim (grants_room size w (length items) st.upper e) [
        | inl zilch ↦ inl (no_items (take j items) (taken ∙ zilch))
        | inr fits ↦ inr (subst (λ n. (st.upper +ℤ pos n) ≤ℤ pos size) (sym taken) fits)
      ];
      full = elim (grants_full size w (length items) st.upper e) [
        | inl all ↦ inl (no_items (drop j items) (omega (arith, left, all)))
        | inr over ↦ inr (subst (λ n. pos size ≤ℤ (st.upper +ℤ pos n)) (sym taken) over)
      ];
    }
