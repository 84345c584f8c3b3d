-- The slots of a queue's cells as a seat takes one and gives it back.
use Rattle.fak_queue.proofs.Common.{◌≡◌, ◌≢◌, ◌⊎◌, ◌↔◌, ℕ, ◌+◌, ◌*◌, ◌/◌, ◌%◌, ◌<◌, List, length, set, sym, ap, ◌∙◌, subst, inl, inr, arith, Option, None, some, none, get_elem?, QueueState, InCell, IsReached, alone, kept, le_or_lt, IsAtHome, HasSlot, common_steps, set_here, set_else}
use mathlib.Core.Option as maybe
use Rattle.fak_model.proofs.Deciding.{same_or_not}

abbrev Homes : Type 0 → Type 0
Homes T = List (maybe.Option (Option T))

-- the state c comes after b by a step of the seat n; `homes` are the slots before it
module _ {T : Type 0} (size n : ℕ) (b : QueueState T) (homes : Homes T) (wide : length homes ≡ size) (slots : (i : ℕ) → i < size → HasSlot size b homes i)
    (c : QueueState T) (phases : (t : ℕ) → t ≢ n → c.phase t ≡ b.phase t) where
  -- a cell that the seat is not in, neither before nor after
  passes_by : (i : ℕ) → c.turn i ≡ b.turn i → c.cell i ≡ b.cell i → (InCell size (b.phase n) i → ⊥) → (InCell size (c.phase n) i → ⊥) → HasSlot size b homes i → HasSlot size c homes i
  passes_by i turn cell before after has = grind (arith, common_steps, same_or_not)

  -- the slot of a cell other than the one whose slot was taken or given
  other_slot : (k : ℕ) (given : maybe.Option (Option T)) (i : ℕ) → i ≢ k → HasSlot size c homes i → HasSlot size c (set homes k given) i
  other_slot k given i ne = subst (λ h. (IsAtHome (c.turn i) (c.cell i) h × ((t : ℕ) → InCell size (c.phase t) i → ⊥)) ⊎ ((t : ℕ) × InCell size (c.phase t) i × (h ≡ some none))) (sym (set_else homes k i given ne))

  -- a step that takes and gives no slot
  pub stays_home : c.turn ≡ b.turn → c.cell ≡ b.cell → ((i : ℕ) → InCell size (b.phase n) i → ⊥) → ((i : ℕ) → InCell size (c.phase n) i → ⊥) → (i : ℕ) → i < size → HasSlot size c homes i
  stays_home turn cell before after i lt = passes_by i (ap (λ f. f i) turn) (ap (λ f. f i) cell) (before i) (after i) (slots i lt)

  -- the seat takes the slot of its cell
  pub takes_slot : c.turn ≡ b.turn → c.cell ≡ b.cell → ((i : ℕ) → InCell size (b.phase n) i → ⊥) → (k : ℕ) → k < size → InCell size (c.phase n) k → ((i : ℕ) → InCell size (c.phase n) i → i ≡ k)
      → (i : ℕ) → i < size → HasSlot size c (set homes k none) i
  takes_slot turn cell before k near inside mine i lt = elim (same_or_not i k) [
    | inl q ↦ inr (n, subst (InCell size (c.phase n)) (sym q) inside, ap (get_elem? (set homes k none)) q ∙ set_here homes k none (omega (arith, wide, near)))
    | inr ne ↦ other_slot k none i ne (passes_by i (ap (λ f. f i) turn) (ap (λ f. f i) cell) (before i) (λ a. ne (mine i a)) (slots i lt))
  ]

  -- the seat gives it back: nobody else was in its cell
  pub gives_slot : 0 < size → IsReached size b → (k : ℕ) → k < size → ((i : ℕ) → i ≢ k → (c.turn i ≡ b.turn i) × (c.cell i ≡ b.cell i)) → InCell size (b.phase n) k → ((i : ℕ) → InCell size (b.phase n) i → i ≡ k)
      → ((i : ℕ) → InCell size (c.phase n) i → ⊥) → (x : Option T) → IsAtHome (c.turn k) (c.cell k) (some (some x)) → (i : ℕ) → i < size → HasSlot size c (set homes k (some x)) i
  gives_slot some_cell reached k near same inside mine after x home i lt =
      let nobody : (t : ℕ) → InCell size (c.phase t) k → ⊥ = λ t a. elim (same_or_not t n) [
        | inl q ↦ after k (subst (λ y. InCell size (c.phase y) k) q a)
        | inr ne ↦ ne (alone size b t n k some_cell (kept size b reached some_cell) (subst (λ p. InCell size p k) (phases t ne) a) inside)
      ] in
      elim (same_or_not i k) [
        | inl q ↦ inl (
          subst (λ j. IsAtHome (c.turn j) (c.cell j) (get_elem? (set homes k (some x)) j)) (sym q)
              (subst (IsAtHome (c.turn k) (c.cell k)) (sym (set_here homes k (some x) (omega (arith, wide, near)))) home),
          λ t a. nobody t (subst (InCell size (c.phase t)) q a),
        )
        | inr ne ↦ other_slot k (some x) i ne (passes_by i (same i ne).0 (same i ne).1 (λ a. ne (mine i a)) (after i) (slots i lt))
      ]

  -- nobody is in the cell that the seat enters: its slot is at home
  pub slot_there : 0 < size → IsReached size c → ((i : ℕ) → InCell size (b.phase n) i → ⊥) → (k : ℕ) → k < size → InCell size (c.phase n) k → IsAtHome (b.turn k) (b.cell k) (get_elem? homes k)
  slot_there some_cell reached out k near inside = elim (slots k near) [
    | inl h ↦ h.0
    | inr o ↦ absurd (
        let ne : o.0 ≢ n = λ q. out k (subst (λ z. InCell size (b.phase z) k) q o.1) in
        ne (alone size c o.0 n k some_cell (kept size c reached some_cell) (subst (λ p. InCell size p k) (sym (phases o.0 ne)) o.1) inside))
  ]

even_or_odd : (n : ℕ) → ((q : ℕ) × (n ≡ 2 * q)) ⊎ ((q : ℕ) × (n ≡ 2 * q + 1))
even_or_odd n = elim (le_or_lt 1 (n % 2)) [
  | inl odd ↦ inr (n / 2, omega (arith, odd))
  | inr even ↦ inl (n / 2, omega (arith, even))
]

-- a slot is out exactly while a seat is in its cell
pub out_exactly : {T : Type 0} (size : ℕ) (b : QueueState T) (homes : Homes T) (i : ℕ) → HasSlot size b homes i → (get_elem? homes i ≡ some none) ↔ ((t : ℕ) × InCell size (b.phase t) i)
out_exactly {T} size b homes i has = (
  (λ gone. elim has [
    | inl h ↦ absurd (elim (even_or_odd (b.turn i)) [
      | inl e ↦ (let two : ◌≡◌ {A = maybe.Option (maybe.Option (Option T))} (some none) (some (some None)) = sym gone ∙ h.0.even e.0 e.1 in cc)
      | inr o ↦ (let two : some none ≡ some (some (b.cell i)) = sym gone ∙ h.0.odd o.0 o.1 in cc)
    ])
    | inr o ↦ (o.0, o.1)
  ]),
  λ inside. elim has [
    | inl h ↦ absurd (h.1 inside.0 inside.1)
    | inr o ↦ o.2
  ],
)
