-- Turns without steps never end: the process gets the processor, and becomes ready again.
use Rattle.fak_run.proofs.Common.{◌≡◌, ◌⊎◌, ℕ, zero, suc, length, refl, ap, ◌∙◌, arith, inl, inr, Option, Some, None, Lists, State, Turn, EndsIn, opening, step, steps}
use Rattle.fak_run.specs.Examples.{unending}

abbrev ready : State
ready = opening unending

abbrev running : State
running = step unending ready

goes_round : (n : ℕ) → (steps n unending ready ≡ ready) ⊎ (steps n unending ready ≡ running)
goes_round zero = inl refl
goes_round (suc n) = elim (goes_round n) [
  | inl is ↦ inr (ap (step unending) is)
  | inr is ↦ inl (ap (step unending) is)
]

abbrev runs : Option Turn → ℕ
runs None = 0
runs (Some t) = 1

pub never_ends : (lists : Lists) → EndsIn unending lists → ⊥
never_ends lists ends = elim (goes_round ends.count) [
  | inl is ↦ (
      let one : length lists.ready ≡ 1 = ap (λ (s : State). length s.lists.ready) (ends.reached ∙ is) in
      let none : length lists.ready ≡ 0 = ap length ends.still in
      absurd (omega (arith, one, none)))
  | inr is ↦ (
      let some : 0 ≡ 1 = ap (λ (s : State). runs s.running) (ends.reached ∙ is) in
      absurd (omega (arith, some)))
]
