-- The list scheduler ends in only one way.
use Rattle.fak_run.proofs.Common.{◌≡◌, ℕ, zero, suc, ◌≤◌, ◌⊎◌, [], arith, ap, sym, ◌∙◌, inl, inr, Lists, State, turn_over, take_front, step, steps, opening, EndsIn, common_steps}
use Rattle.fak_text.specs.Script.{ScriptOf}

-- a still machine stays as it is
step-still : (script : ScriptOf) (l : Lists) → l.ready ≡ [] → step script (turn_over l) ≡ turn_over l
step-still script l still = ap (take_front l) still

-- a number up to suc m is suc m or up to m
same_or_before : (n m : ℕ) → n ≤ suc m → (n ≡ suc m) ⊎ (n ≤ m)
same_or_before n m le = grind arith

-- of two numbers, one is at most the other
before_or_behind : (n m : ℕ) → (n ≤ m) ⊎ (m ≤ n)
before_or_behind n m = grind arith

-- once the machine is still, more steps change nothing
steps-still : (script : ScriptOf) (s : State) (n : ℕ) → step script (steps n script s) ≡ steps n script s → (m : ℕ) → n ≤ m → steps m script s ≡ steps n script s
steps-still script s n still zero le = let none : n ≡ 0 = omega arith in ap (λ k. steps k script s) (sym none)
steps-still script s n still (suc m) le = elim (same_or_before n m le) [
  | inl same ↦ ap (λ k. steps k script s) (sym same)
  | inr before ↦ ap (step script) (steps-still script s n still m before) ∙ still
]

-- of two ends, the later one equals the earlier one
later : (script : ScriptOf) (a b : Lists) (n m : ℕ) → turn_over a ≡ steps n script (opening script) → a.ready ≡ [] → turn_over b ≡ steps m script (opening script) → n ≤ m → b ≡ a
later script a b n m reached still then le = grind (arith, common_steps, step, steps, opening, step-still, steps-still)

-- two ends are equal
pub ends_alike : (script : ScriptOf) (a b : Lists) → EndsIn script a → EndsIn script b → a ≡ b
ends_alike script a b one other = elim (before_or_behind one.count other.count) [
  | inl before ↦ sym (later script a b one.count other.count one.reached one.still other.reached before)
  | inr behind ↦ later script b a other.count one.count other.reached other.still one.reached behind
]
